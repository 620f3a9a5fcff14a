use Rattle.toml_span_lex.proofs.Common.{◌≡◌, ◌∙◌, ◌==◌, length, ap, refl, sym, subst, inl, inr, ℕ, Bool, not, true, List, [], ◌∷◌, map, Result, Err, Option, err_from_is_err_and, unwrap_or, arith, nat_tests, common_steps}
use Rattle.clap.specs.Kinds.{HasKind, Kinds, or_else}
use Rattle.clap.specs.Values as clap
use Rattle.clap.specs.Words.{App, HasMatchesOf, Row, all_of, fault_of, found_of, is_simple, is_simple_and_free, matches_of, rows_of}
use Rattle.clap.specs.declared.error.Error.{Error}
use Rattle.clap.specs.declared.parser.matches.ArgMatches.{ArgMatches}
use Rattle.toml_span_check.specs.declared.answer.Task.{Task}
use Rattle.toml_span_check.specs.declared.formats.Format.{Format}
use Rattle.toml_span_commands.specs.Options.{Sets, asked, check, coloured, faults, fixing_of, get, is_given, kind_of, names_of, options, path_of, program, refusals}
use Rattle.toml_span_commands.specs.declared.colours.Screen.{Screen}
use Rattle.toml_span_commands.specs.declared.options.Mistake.{Mistake}
use Rattle.toml_span_commands.specs.declared.options.Options.{Options}
use Rattle.toml_span_commands.specs.declared.options.Query.{Query}
use Rattle.toml_span_commands.specs.declared.options.Query.TheVariants as queries
use Rattle.toml_span_commands.proofs.Rows.{all-row, or-none}
use Rattle.toml_span_commands.proofs.options.options_of.Goals as goal

is-simple : (query : Query) → is_simple (program query) ≡ true
unfolding check get
is-simple queries.Check = refl
is-simple queries.Get = refl

is-free : (query : Query) → is_simple_and_free (program query) ≡ true
unfolding check get
is-free queries.Check = refl
is-free queries.Get = refl

-- the rows are those of the words
rows : (query : Query) (app : App) (words : List (List ℕ)) (m : ArgMatches) → app ≡ program query → HasMatchesOf app words m →
    rows_of (found_of m) ≡ options query words
unfolding options
rows query app words m is has = (has (ap is_simple is ∙ is-simple query)).0 ∙ ap (λ a. matches_of a words) is

-- what the rows set, the words set
sets : (rs other : List Row) (o : Options) → rs ≡ other → Sets rs o → Sets other o
sets rs other o is h = subst (λ (r : List Row). Sets r o) is h

-- clap refuses only because of the words
refused : (query : Query) (app : App) (words : List (List ℕ)) (e : Error) → app ≡ program query →
    (is_simple_and_free app ≡ true → HasKind (fault_of app words) e) → HasKind (refusals query words) e
unfolding refusals
refused query app words e is h = subst (λ (a : App). HasKind (fault_of a words) e) is (h (ap is_simple_and_free is ∙ is-free query))

-- what it takes, it doesn't refuse
taken : (query : Query) (app : App) (words : List (List ℕ)) → app ≡ program query → (is_simple_and_free app ≡ true → fault_of app words ≡ []) →
    refusals query words ≡ []
unfolding refusals
taken query app words is h = ap (λ a. fault_of a words) (sym is) ∙ h (ap is_simple_and_free is ∙ is-free query)

first-among : (first next : Kinds) (e : Error) → HasKind first e → HasKind (or_else first next) e
first-among first next e h = grind (arith, nat_tests, common_steps)

mistaken : (query : Query) (words : List (List ℕ)) (t : Bool) (m : Mistake) (e : Error) → refusals query words ≡ [] →
    asked query (options query words) t ≡ Err m → clap.kind_of e ≡ kind_of m → HasKind (faults query words t) e
mistaken query words t m e fine is kind = rw (fine, is) (inr (inl kind))

-- what the arguments mean, by their rows
meant : (query : Query) (screen : Screen) (is_coloured : Bool) (rs : List Row) (words : List (List ℕ)) (result other : Result (Format × Task) Mistake) →
    rs ≡ options query words → is_coloured ≡ coloured query screen → result ≡ asked query rs is_coloured → result ≡ other →
    asked query (options query words) (coloured query screen) ≡ other
meant query screen is_coloured rs words result other these same is found =
    ap (λ r. asked query r (coloured query screen)) (sym these) ∙ ap (asked query rs) (sym same) ∙ sym is ∙ found

pub returns-in_err-command-clause-fails : goal.returns-in_err-command-clause-fails
returns-in_err-command-clause-fails c = grind (arith, nat_tests, common_steps)

pub returns-in_err-matches-clause-fails : goal.returns-in_err-matches-clause-fails
returns-in_err-matches-clause-fails c =
    let p = err_from_is_err_and c.from_residual-in_err-matches.result c.from_residual-in_err-matches.ensures.1 in
    rw (p.1, p.2) (first-among _ _ c.in_err-matches.field-0.0 (refused _ _ _ c.in_err-matches.field-0.0 c.in_ok-command.ensures c.in_err-matches.ensures.kinds))

pub returns-in-Ok-clause-ok : goal.returns-in-Ok-clause-ok
returns-in-Ok-clause-ok c =
    let these = rows _ _ _ c.in_ok-matches.matches c.in_ok-command.ensures c.in_ok-matches.ensures.ok.2 in
    record {
      what = meant _ _ _ _ _ _ _ these c.coloured.ensures c.asked.ensures c.in-Ok.is;
      place = c.path_of.ensures ∙ ap path_of these;
      left_out =
          ap (map (λ name. name.now)) (c.in_ok-from_slice-in-Ok.ensures.items ∙ ap (λ s. s.now) c.unwrap_or.ensures)
          ∙ or-none c.get_strs.result _ refl
          ∙ ap (λ (o : Option (List (List ℕ))). unwrap_or o []) (c.get_strs.ensures ∙ all-row c.in_ok-matches.matches _ ∙ ap (all_of (101 ∷ 120 ∷ 99 ∷ 108 ∷ 117 ∷ 100 ∷ 101 ∷ [])) these);
      files = c.in_ok-names_of-in-Ok.ensures ∙ ap names_of these;
      watched = refl;
      quiet = c.is_given.ensures ∙ ap (λ rs. is_given rs (113 ∷ 117 ∷ 105 ∷ 101 ∷ 116 ∷ [])) these;
      fixes = c.fixing_of.ensures ∙ ap fixing_of these;
    }

pub returns-in-Ok-clause-sets : goal.returns-in-Ok-clause-sets
returns-in-Ok-clause-sets c =
    let these = rows _ _ _ c.in_ok-matches.matches c.in_ok-command.ensures c.in_ok-matches.ensures.ok.2 in
    sets _ _ _ these (record {
      stdin_name = c.value_of.ensures;
      writing = c.writing_of.ensures;
      schema = c.value_of-in-Ok.ensures;
      catalog = c.value_of-in-Ok-2.ensures;
      maps =
          ap (map (λ name. name.now)) (c.in_ok-from_slice-in-Ok-2.ensures.items ∙ ap (λ s. s.now) c.unwrap_or-in-Ok.ensures)
          ∙ or-none c.get_strs-in-Ok.result _ refl
          ∙ ap (λ (o : Option (List (List ℕ))). unwrap_or o []) (c.get_strs-in-Ok.ensures ∙ all-row c.in_ok-matches.matches _);
      formats = ap not c.is_given-in-Ok.ensures;
      config = c.value_of-in-Ok-3.ensures;
      no_config = c.is_given-in-Ok-2.ensures;
      exclusion = c.is_given-in-Ok-3.ensures;
      warnings = c.is_given-in-Ok-4.ensures;
      version = ap not (c.is_empty.ensures ∙ ap (λ (t : List ℕ). length t == 0) c.value_of-in-Ok-4.ensures);
    })

pub returns-in-Ok-clause-fails : goal.returns-in-Ok-clause-fails
returns-in-Ok-clause-fails c =
    let these = rows _ _ _ c.in_ok-matches.matches c.in_ok-command.ensures c.in_ok-matches.ensures.ok.2 in
    let fine = taken _ _ _ c.in_ok-command.ensures c.in_ok-matches.ensures.kinds in
    rw (fine, meant _ _ _ _ _ _ _ these c.coloured.ensures c.asked.ensures c.in-Ok.is) refl

pub returns-clause-fails : goal.returns-clause-fails
returns-clause-fails c =
    let these = rows _ _ _ c.in_ok-matches.matches c.in_ok-command.ensures c.in_ok-matches.ensures.ok.2 in
    let fine = taken _ _ _ c.in_ok-command.ensures c.in_ok-matches.ensures.kinds in
    mistaken _ _ _ c.in-Err.mistake c.in_ok-error-in-Err.field-0 fine (meant _ _ _ _ _ _ _ these c.coloured.ensures c.asked.ensures c.in-Err.is)
    (c.in_ok-error-in-Err.ensures.kind ∙ c.kind_of.ensures)
