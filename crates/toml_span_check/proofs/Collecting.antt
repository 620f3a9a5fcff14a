-- One more file with its report.
use Rattle.toml_span_lex.proofs.Common.{◌≡◌, ◌<◌, ◌+◌, ◌⊎◌, ℕ, Bool, Bor, Global, String, false, List, [], ◌∷◌, ◌++◌, map, take, drop, get_or, length, Option, Result, Ok, Err, IsErrAnd, refl, sym, ap, subst, inl, inr, ◌∙◌, append_assoc, take-append-drop, string_bytes, suc, arith, length-append, take_more, map-append, Appends-trans, nat_tests, common_steps}
use Rattle.std.proofs.lemmas.List.{append-nil}
use Rattle.toml_span_check.specs.Schemas.{Says}
use Rattle.toml_span_check.specs.declared.answer.Task.{Task}
use Rattle.toml_span_check.specs.declared.answer.Task.TheVariants.{Check, Show}
use Rattle.toml_span_check.specs.declared.formats.Format.{Format}
use Rattle.toml_span_check.specs.Run.{Asked, Reading, Gathered, LogsSearch, FindsAll, no_name, one_more, Logs, Shows, Collects, CollectsFirst, IsOutput, are_named, named_task, nothing, answered, unread, none_wrong, summary, together, whole}
use Rattle.toml_span_check.specs.code.Collected.{AddsFile, BegunOne, Holds, CollectsAll, CollectsFiles, CollectsOne, TextsOf}
use Rattle.toml_span_check.specs.declared.run.Tally.{Tally}
use Rattle.toml_span_check.specs.declared.run.Collected.{Collected}
use Rattle.toml_span_lines.specs.Held.{HoldsRest}
use Rattle.toml_span_lines.specs.Run.{HasWritten}
use Rattle.toml_span_lines.specs.declared.held.Unwritten.{Unwritten}
use Rattle.toml_span_lines.specs.declared.held.Unwritten.TheVariants.{Failed, Memory}
use Rattle.toml_span_lines.proofs.Fronts.{front-written, written-front}

logs-none : (log : Option Asked) → Logs log log []
logs-none log = grind (arith, nat_tests, common_steps)

logs-more : (a b c : Option Asked) (rs : List Reading) (r : Reading) → Logs a b rs → Logs b c (r ∷ []) → Logs a c (rs ++ r ∷ [])
logs-more a b c rs r h k = grind (arith, nat_tests, common_steps)

pub finds-none : (excludes : List (List ℕ)) (log : Option Asked) (files : List (List ℕ)) → files ≡ [] → FindsAll excludes [] log log files
finds-none excludes log files none = rw none (no_name log)

pub finds-more : (excludes names more : List (List ℕ)) (name : List ℕ) (old mid new : Option Asked) (files found all : List (List ℕ)) →
    FindsAll excludes names old mid files → more ≡ names ++ name ∷ [] → LogsSearch mid new (excludes, name, found) → all ≡ files ++ found → FindsAll excludes more old new all
finds-more excludes names more name old mid new files found all before n search a = rw (n, a) (one_more names old mid new files name found before search)

pub prints-start : (says : Says) (format : Format) (task : Task) (pointer : List ℕ) (log : Option Asked) (out errors : List ℕ) → out ≡ [] → errors ≡ [] →
    Collects says format task pointer [] log log out errors 0 none_wrong
prints-start says format task pointer log out errors none silent =
    record { readings = []; asked = refl; logged = logs-none log; gathered = rw (none, silent) nothing }

gathers-more : (says : Says) (format : Format) (task : Task) (pointer : List ℕ) (rs : List Reading) (name : List ℕ) (reading : Result (List ℕ) (List ℕ)) (t u : TextsOf) →
    Gathered says format task pointer rs t.0 t.1 t.2 t.3 → AddsFile says format task pointer name reading t u → Gathered says format task pointer (rs ++ (name, reading) ∷ []) u.0 u.1 u.2 u.3
gathers-more says format task pointer rs name (Ok bytes) t u stdout a = rw (a.2, a.3, a.4, a.5) (answered rs t.0 t.1 t.2 t.3 name bytes a.0 stdout a.1)
gathers-more says format task pointer rs name (Err reason) t u stdout a = rw (a.0, a.1, a.2, a.3) (unread rs t.0 t.1 t.2 t.3 name reason stdout)

pub prints-more : (says : Says) (format : Format) (task : Task) (pointer : List ℕ) (names more : List (List ℕ)) (name : List ℕ) (old mid new : Option Asked) (reading : Result (List ℕ) (List ℕ)) (t u : TextsOf) →
    Collects says format task pointer names old mid t.0 t.1 t.2 t.3 → more ≡ names ++ name ∷ [] → Logs mid new ((name, reading) ∷ []) → AddsFile says format task pointer name reading t u →
    Collects says format task pointer more old new u.0 u.1 u.2 u.3
prints-more says format task pointer names more name old mid new reading t u stdout n l a = record {
  readings = stdout.readings ++ (name, reading) ∷ [];
  asked = map-append (λ r. r.0) stdout.readings ((name, reading) ∷ []) ∙ ap (λ ns. ns ++ name ∷ []) stdout.asked ∙ sym n;
  logged = logs-more old mid new stdout.readings (name, reading) stdout.logged l;
  gathered = gathers-more says format task pointer stdout.readings name reading t u stdout.gathered a;
}

pub names-more : {X : Type 0} (text : X → List ℕ) (names : List X) (i : ℕ) (d : X) → i < length names →
    map text (take (i + 1) names) ≡ map text (take i names) ++ text (get_or names i d) ∷ []
names-more text names i d below = ap (map text) (take_more names i d below) ∙ map-append text (take i names) (get_or names i d ∷ [])

pub names-split : {X : Type 0} (text : X → List ℕ) (names : List X) (i : ℕ) → map text names ≡ map text (take i names) ++ map text (drop i names)
names-split text names i = ap (map text) (sym (take-append-drop i names)) ∙ map-append text (take i names) (drop i names)

-- ---- what is written and held

-- a text after what was written
pub holds-after : (a b c : Option (List ℕ)) (all held text kept : List ℕ) (h : HoldsRest a b all held) → HoldsRest b c text kept → HoldsRest a c (h.0 ++ text) kept
holds-after a b c all held text kept h k = (h.0 ++ k.0, Appends-trans a b c h.0 k.0 h.1 k.1, append_assoc h.0 k.0 kept ∙ ap (λ l. h.0 ++ l) k.2)

pub written-after : (a b c : Option (List ℕ)) (all held text : List ℕ) (h : HoldsRest a b all held) → HasWritten b c text → HasWritten a c (h.0 ++ text)
written-after a b c all held text h w =
    let front = written-front b c text w in
    front-written a c (h.0 ++ text) front.0 (holds-after a b c all held text front.0 h front.1)

adds-after : (says : Says) (format : Format) (task : Task) (pointer name : List ℕ) (reading : Result (List ℕ) (List ℕ)) (held errors : List ℕ) (status : ℕ) (wrong : Tally) (t : TextsOf) (front all : List ℕ) →
    AddsFile says format task pointer name reading (held, errors, status, wrong) t → front ++ held ≡ all →
    AddsFile says format task pointer name reading (all, errors, status, wrong) (front ++ t.0, t.1, t.2, t.3)
adds-after says format task pointer name reading held errors status wrong t front all a is = grind (arith, nat_tests, common_steps)

-- ---- files, one after another

-- the reports on the files so far, written or held
abbrev pub Upto : Says → Format → Task → List ℕ → List (List ℕ) → Option Asked → Option Asked → Option (List ℕ) → Option (List ℕ) → TextsOf → Type 0
Upto says format task pointer names old new a b t =
    ((b ≡ a) ⊎ Shows task) × ((all : List ℕ) × Collects says format task pointer names old new all t.1 t.2 t.3 × Holds task a b all t.0)

-- where all is held nothing is before it
no-front : (front held all : List ℕ) → front ++ held ≡ all → held ≡ all → front ≡ []
no-front [] held all is same = refl
no-front (x ∷ front) held all is same =
    let longer : suc (length front) + length held ≡ length held = sym (length-append (x ∷ front) held) ∙ ap length is ∙ sym (ap length same) in
    absurd (omega (arith, longer))

holds-next : (task : Task) (all held text kept front : List ℕ) → front ++ held ≡ all → (held ≡ all) ⊎ Shows task → (kept ≡ text) ⊎ Shows task → (kept ≡ front ++ text) ⊎ Shows task
holds-next task all held text kept front is (inr shows) k = inr shows
holds-next task all held text kept front is (inl same) (inr shows) = inr shows
holds-next task all held text kept front is (inl same) (inl more) = inl (more ∙ sym (ap (λ f. f ++ text) (no-front front held all is same)))

-- where documents are shown, nothing surrounds the reports
whole-shown : (format : Format) (task : Task) (text : List ℕ) → Shows task → text ≡ whole format task text
whole-shown format task text shows = grind (arith, nat_tests, common_steps)

-- the reports on all files together are held
pub whole-held : (format : Format) (task : Task) (a b : Option (List ℕ)) (all held kept : List ℕ) → Holds task a b all held → kept ≡ whole format task held → HoldsRest a b (whole format task all) kept
whole-held format (Show printing) a b all held kept h is = subst (HoldsRest a b all) (sym is) h.0
whole-held format (Check version chooser) a b all held kept (h, inl same) is =
    (h.0, h.1, ap (λ f. f ++ kept) (no-front h.0 held all h.2 same) ∙ is ∙ ap (together format) same)
whole-held format (Check version chooser) a b all held kept (h, inr (printing, wrong)) is = cc

shows-next : (task : Task) (a b c : Option (List ℕ)) → (b ≡ a) ⊎ Shows task → (c ≡ b) ⊎ Shows task → (c ≡ a) ⊎ Shows task
shows-next task a b c h k = grind (arith, nat_tests, common_steps)

pub upto-next : (says : Says) (format : Format) (task : Task) (pointer : List ℕ) (names more : List (List ℕ)) (name : List ℕ) (old mid new : Option Asked) (reading : Result (List ℕ) (List ℕ)) (a b c : Option (List ℕ)) (t u : TextsOf) (text : List ℕ) →
    Upto says format task pointer names old mid a b t → more ≡ names ++ name ∷ [] → Logs mid new ((name, reading) ∷ []) →
    (c ≡ b) ⊎ Shows task → AddsFile says format task pointer name reading t (text, u.1, u.2, u.3) → Holds task b c text u.0 →
    Upto says format task pointer more old new a c u
upto-next says format task pointer names more name old mid new reading a b c t u text before n l kept adds holds =
    let h = before.1.2.0 in (
      shows-next task a b c before.0 kept,
      (
        h.0 ++ text,
        prints-more says format task pointer names more name old mid new reading (before.1.0, t.1, t.2, t.3) (h.0 ++ text, u.1, u.2, u.3) before.1.1 n l
            (adds-after says format task pointer name reading t.0 t.1 t.2 t.3 (text, u.1, u.2, u.3) h.0 before.1.0 adds h.2),
        (holds-after a b c before.1.0 t.0 text u.0 h holds.0, holds-next task before.1.0 t.0 text u.0 h.0 h.2 before.1.2.1 holds.1),
      ),
    )

pub prints-first : (says : Says) (format : Format) (task : Task) (pointer : List ℕ) (first rest files : List (List ℕ)) (old new : Option Asked) (a b : Option (List ℕ)) (t : TextsOf) →
    files ≡ first ++ rest → Shows task ⊎ (rest ≡ []) → Collects says format task pointer first old new t.0 t.1 t.2 t.3 → HasWritten a b (whole format task t.0) →
    CollectsFirst says format task pointer files old new a b
prints-first says format task pointer first rest files old new a b t parts all prints written =
    record { first = first; rest = rest; parts = parts; all = all; out = t.0; complaints = t.1; status = t.2; wrong = t.3; prints = prints; written = written }

-- the first files, and one more that was begun
first-more : (says : Says) (format : Format) (task : Task) (pointer : List ℕ) (names more rest files : List (List ℕ)) (name : List ℕ) (old mid new : Option Asked) (reading : Result (List ℕ) (List ℕ)) (a b c : Option (List ℕ)) (t : TextsOf) →
    Upto says format task pointer names old mid a b t → more ≡ names ++ name ∷ [] → files ≡ more ++ rest → Logs mid new ((name, reading) ∷ []) →
    BegunOne says format task pointer name reading b c t → CollectsFirst says format task pointer files old new a c
first-more says format task pointer names more rest files name old mid new reading a b c t before n parts l begun =
    let h = before.1.2.0 in
    let u = begun.1.0 in
    prints-first says format task pointer more rest files old new a c (h.0 ++ u.0, u.1, u.2, u.3) parts (inl begun.0)
    (prints-more says format task pointer names more name old mid new reading (before.1.0, t.1, t.2, t.3) (h.0 ++ u.0, u.1, u.2, u.3) before.1.1 n l
    (adds-after says format task pointer name reading t.0 t.1 t.2 t.3 u h.0 before.1.0 begun.1.1 h.2))
    (subst (HasWritten a c) (whole-shown format task (h.0 ++ u.0) begun.0) (written-after a b c before.1.0 t.0 u.0 h begun.1.2))

-- the first files, and no more
first-upto : (says : Says) (format : Format) (task : Task) (pointer : List ℕ) (names rest files : List (List ℕ)) (old new : Option Asked) (a b : Option (List ℕ)) (t : TextsOf) →
    Upto says format task pointer names old new a b t → files ≡ names ++ rest → (b ≡ a) ⊎ (Shows task × ((last : Option Asked) × CollectsFirst says format task pointer files old last a b))
first-upto says format task pointer names rest files old new a b t (inl same, stdout) parts = inl same
first-upto says format task pointer names rest files old new a b t (inr shows, stdout) parts =
    let written = subst (HasWritten a b) (whole-shown format task stdout.0 shows) (front-written a b stdout.0 t.0 stdout.2.0) in
    inr (shows, (new, prints-first says format task pointer names rest files old new a b (stdout.0, t.1, t.2, t.3) parts (inl shows) stdout.1 written))

-- memory is refused between two files
pub stops-reading : (says : Says) (format : Format) (task : Task) (pointer : List ℕ) (names rest files : List (List ℕ)) (old mid new : Option Asked) (a b : Option (List ℕ)) (t : TextsOf) (failed : Bool) (r : Result Collected Unwritten) →
    Upto says format task pointer names old mid a b t → files ≡ names ++ rest → failed ≡ false → IsErrAnd r (λ y. y ≡ Memory) → CollectsFiles says format task pointer files r old new a b failed
stops-reading says format task pointer names rest files old mid new a b t failed r before parts good err =
    grind (arith, nat_tests, common_steps, first-upto says format task pointer names rest files old mid a b t before parts)

-- the report on a file does not end
stops-with : (says : Says) (format : Format) (task : Task) (pointer : List ℕ) (names more rest files : List (List ℕ)) (name : List ℕ) (old mid new : Option Asked) (reading : Result (List ℕ) (List ℕ)) (a b c : Option (List ℕ)) (t u : TextsOf) (failed : Bool) (e : Unwritten) →
    Upto says format task pointer names old mid a b t → more ≡ names ++ name ∷ [] → files ≡ more ++ rest → Logs mid new ((name, reading) ∷ []) →
    CollectsOne says format task pointer name reading (Err e) b c failed t u → CollectsFiles says format task pointer files (Err e) old new a c failed
stops-with says format task pointer names more rest files name old mid new reading a b c t u failed Failed before n parts l one =
    (one.0, one.1.0, first-more says format task pointer names more rest files name old mid new reading a b c t before n parts l one.1)
stops-with says format task pointer names more rest files name old mid new reading a b c t u failed Memory before n parts l (good, inr begun) =
    (good, inr (begun.0, (new, first-more says format task pointer names more rest files name old mid new reading a b c t before n parts l begun)))
stops-with says format task pointer names more rest files name old mid new reading a b c t u failed Memory before n parts l (good, inl same) =
    let all : files ≡ names ++ (name ∷ [] ++ rest) = parts ∙ ap (λ m. m ++ rest) n ∙ append_assoc names (name ∷ []) rest in
    grind (arith, nat_tests, common_steps, first-upto says format task pointer names (name ∷ [] ++ rest) files old mid a b t before all)

pub stops-collected : (says : Says) (format : Format) (task : Task) (pointer : List ℕ) (names more rest files : List (List ℕ)) (name : List ℕ) (old mid new : Option Asked) (reading : Result (List ℕ) (List ℕ)) (a b c : Option (List ℕ)) (t u : TextsOf) (failed : Bool) (e : Unwritten) (r : Result Collected Unwritten) →
    Upto says format task pointer names old mid a b t → more ≡ names ++ name ∷ [] → files ≡ more ++ rest → Logs mid new ((name, reading) ∷ []) →
    CollectsOne says format task pointer name reading (Err e) b c failed t u → IsErrAnd r (λ y. y ≡ e) → CollectsFiles says format task pointer files r old new a c failed
stops-collected says format task pointer names more rest files name old mid new reading a b c t u failed e r before n parts l one err = grind (arith, nat_tests, common_steps, stops-with)

-- ---- the files that names are for

-- memory is refused before a file is looked at
pub stops-finding : (says : Says) (format : Format) (task : Task) (pointer : List ℕ) (excludes names : List (List ℕ)) (watched : Bool) (old new : Option Asked) (a b : Option (List ℕ)) (failed : Bool) (r : Result Collected Unwritten) →
    b ≡ a → failed ≡ false → IsErrAnd r (λ y. y ≡ Memory) → CollectsAll says format task pointer excludes names watched r old new a b failed
stops-finding says format task pointer excludes names watched old new a b failed r same good err = grind (arith, nat_tests, common_steps)

-- the task with or without names
pub named_as : (task asked : Task) (named : Bool) (ns names : List (Bor (List ℕ))) (fs files : List (String Global)) → asked ≡ named_task task named →
    named ≡ are_named (map (λ name. name.now) ns) (map (λ file. string_bytes file) fs) → ns ≡ names → fs ≡ files → asked ≡ named_task task (are_named (map (λ name. name.now) names) (map (λ file. string_bytes file) files))
named_as task asked named ns names fs files is named_is same same_files = rw (is, named_is, same, same_files) refl

pub shows-named : (task : Task) (named : Bool) → Shows (named_task task named) → Shows task
shows-named (Show printing) named shows = (printing, refl)
shows-named (Check version chooser) named (printing, wrong) = cc

pub whole-named : (format : Format) (task : Task) (named : Bool) (text : List ℕ) → whole format (named_task task named) text ≡ whole format task text
whole-named format (Show printing) named text = refl
whole-named format (Check version chooser) named text = refl

pub or-shows : (P : Type 0) (task : Task) (named : Bool) → P ⊎ Shows (named_task task named) → P ⊎ Shows task
or-shows P task named (inl p) = inl p
or-shows P task named (inr shows) = inr (shows-named task named shows)

stops-all : (says : Says) (format : Format) (task : Task) (pointer : List ℕ) (excludes names files : List (List ℕ)) (watched : Bool) (old mid new : Option Asked) (a b : Option (List ℕ)) (failed : Bool) (e : Unwritten) →
    FindsAll excludes names old mid files → CollectsFiles says format (named_task task (are_named names files)) pointer files (Err e) mid new a b failed → CollectsAll says format task pointer excludes names watched (Err e) old new a b failed
stops-all says format task pointer excludes names files watched old mid new a b failed Failed found (bad, shows, first) =
    (bad, record { aloud = refl; files = files; mid = mid; found = found; prints = first })
stops-all says format task pointer excludes names files watched old mid new a b failed Memory found (good, inl same) = (good, inl same)
stops-all says format task pointer excludes names files watched old mid new a b failed Memory found (good, inr (shows, (last, first))) =
    (good, inr (shows-named task (are_named names files) shows, (last, record { aloud = refl; files = files; mid = mid; found = found; prints = first })))

pub stops-collecting : (says : Says) (format : Format) (task asked : Task) (pointer : List ℕ) (excludes names files read : List (List ℕ)) (watched : Bool) (old mid new : Option Asked) (a b : Option (List ℕ)) (failed : Bool) (e : Unwritten) (r : Result Collected Unwritten) →
    asked ≡ named_task task (are_named names files) → read ≡ files → FindsAll excludes names old mid files → CollectsFiles says format asked pointer read (Err e) mid new a b failed → IsErrAnd r (λ y. y ≡ e) → CollectsAll says format task pointer excludes names watched r old new a b failed
stops-collecting says format task asked pointer excludes names files read watched old mid new a b failed e r is same found h err =
    let all = subst (λ (fs : List (List ℕ)). CollectsFiles says format asked pointer fs (Err e) mid new a b failed) same h in
    let named = subst (λ (t : Task). CollectsFiles says format t pointer files (Err e) mid new a b failed) is all in
    grind (arith, nat_tests, common_steps, stops-all says format task pointer excludes names files watched old mid new a b failed e found named)

-- memory runs out after the files
pub stops-counting : (says : Says) (format : Format) (task asked : Task) (pointer : List ℕ) (excludes names files : List (List ℕ)) (watched : Bool) (old mid new : Option Asked) (a b : Option (List ℕ)) (failed : Bool) (t : Collected) (r : Result Collected Unwritten) →
    asked ≡ named_task task (are_named names files) → FindsAll excludes names old mid files → CollectsFiles says format asked pointer files (Ok t) mid new a b failed → IsErrAnd r (λ y. y ≡ Memory) → CollectsAll says format task pointer excludes names watched r old new a b failed
stops-counting says format task asked pointer excludes names files watched old mid new a b failed t r is found h err =
    let stdout = subst (λ (k : Task). CollectsFiles says format k pointer files (Ok t) mid new a b failed) is h in
    let text : TextsOf = (t.held.items, string_bytes t.errors, t.status, t.wrong) in
    let first = first-upto says format (named_task task (are_named names files)) pointer files [] files mid new a b text (stdout.1, stdout.2) (sym (append-nil files)) in
    grind (arith, nat_tests, common_steps, stops-all says format task pointer excludes names files watched old mid new a b failed Memory found (stdout.0, first))

-- all files have been looked at
pub collects-all : (says : Says) (format : Format) (task asked : Task) (pointer : List ℕ) (excludes names files : List (List ℕ)) (watched : Bool) (old mid new : Option Asked) (a b : Option (List ℕ)) (failed : Bool) (t : Collected) (errors kept : List ℕ) →
    asked ≡ named_task task (are_named names files) → FindsAll excludes names old mid files → CollectsFiles says format asked pointer files (Ok t) mid new a b failed →
    kept ≡ whole format task t.held.items → errors ≡ string_bytes t.errors ++ summary format task watched (length files) t.wrong →
    (failed ≡ false) × ((b ≡ a) ⊎ Shows task) × ((out : List ℕ) × IsOutput says format task pointer excludes names watched false old new out errors t.status × HoldsRest a b out kept)
collects-all says format task asked pointer excludes names files watched old mid new a b failed t errors kept is found h held_is errors_are =
    let k = are_named names files in
    let stdout = subst (λ (u : Task). CollectsFiles says format u pointer files (Ok t) mid new a b failed) is h in
    let all = stdout.2.0 in
    let rest = whole-held format (named_task task k) a b all t.held.items kept stdout.2.2 (held_is ∙ sym (whole-named format task k t.held.items)) in (
      stdout.0,
      or-shows (b ≡ a) task k stdout.1,
      (
        whole format task all,
        record {
          files = files;
          mid = mid;
          found = found;
          all = all;
          complaints = string_bytes t.errors;
          wrong = t.wrong;
          prints = stdout.2.1;
          shown = refl;
          stderr = errors_are;
        },
        subst (λ (text : List ℕ). HoldsRest a b text kept) (whole-named format task k all) rest,
      ),
    )
