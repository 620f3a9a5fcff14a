-- Lines and sections in a part of a text are also in its copy.
use Rattle.toml_span_lex.proofs.Common.{◌≡◌, ℕ, ◌+◌, ◌-◌, ◌≤◌, Bool, true, false, List, [], ◌∷◌, ◌++◌, map, length, get_or, arith, refl, sym, ◌==◌}
use Rattle.toml_span_lex.specs.Bytes.{is_blank, is_printed, MaximalRun}
use Rattle.toml_span_read.specs.Gaps.{Skipped, Tail, Equals}
use Rattle.toml_span_read.specs.Data.{SimpleKey, ParsedAssignment, ParsedSection, from_to, last_end}
use Rattle.toml_span_read.specs.Grammar.{SpellsScalar, AssignmentWith, AssignmentsWith, LinesWith, OpensHeader, ClosesHeader, SpellsHeader, SectionWith, SectionsWith}
use Rattle.toml_span_read.proofs.Moves.{Moves, also, Copied, At, further, either, said, given, in_sequence, nothing, first, byte, stays, between}
use Rattle.toml_span_read.proofs.Places.{run_some}
use Rattle.toml_span_laws.specs.Again.{moved_span, moved_parts}
use Rattle.toml_span_laws.proofs.AgainStrings.{runs, gap, line, spans}
use Rattle.toml_span_laws.proofs.AgainValues.{moved_assignment, dotted, value_copied, length_moved, path_moved, paths, paths_more, clear_same}

abbrev pub moved_section : ℕ → ℕ → ParsedSection → ParsedSection
moved_section s t b = record {
  header = moved_parts s t b.header;
  array = b.array;
  header_span = moved_span s t b.header_span;
  extent = moved_span s t b.extent;
  assignments = map (moved_assignment s t) b.assignments;
}

end_moved : (s t n m : ℕ) (es : List ParsedAssignment) → m + s ≡ n + t → last_end m (map (moved_assignment s t) es) ≡ (last_end n es + t) - s
end_moved s t n m [] e = omega arith
end_moved s t n m (e ∷ es) f = last_moved s t e.extent.end es
  where
    last_moved : (s t n : ℕ) (es : List ParsedAssignment) → last_end ((n + t) - s) (map (moved_assignment s t) es) ≡ (last_end n es + t) - s
    last_moved s t n [] = refl
    last_moved s t n (e ∷ es) = last_moved s t e.extent.end es

module _ {a b : List ℕ} {s t : ℕ} (w : Copied a b s t (length b) 0) (whole : length a + t ≡ length b + s) where
  abbrev To : (ℕ → ℕ → Type 0) → (ℕ → ℕ → Type 0) → Type 0
  To R S = Moves (At s t (length b) 0) R S

  -- ---- the rest of a line

  comment : To (λ i j. (get_or a i 0 ≡ 35) × MaximalRun is_printed a i j) (λ i j. (get_or b i 0 ≡ 35) × MaximalRun is_printed b i j)
  comment = record {
    on = λ i j h. h.1.forward;
    to = λ i j k l u v h. (let some = run_some is_printed a i j refl (rw (h.0) refl) h.1 in (byte w (λ x. x) 35 u (omega arith) h.0, (runs w is_printed).to i j k l u v h.1));
  }

  no_comment : To (λ i j. ((get_or a i 0 == 35) ≡ false) × (j ≡ i)) (λ i j. ((get_or b i 0 == 35) ≡ false) × (j ≡ i))
  no_comment = record { on = λ i j h. omega (arith, h.1); to = λ i j k l u v h. (stays w (λ c. c == 35) u refl h.0, omega (arith, h.1)) }

  skipped : To (Skipped a) (Skipped b)
  skipped = said (λ i j h. (h.at, h.blank, h.comment)) (λ k l h. record { at = h.0; blank = h.1; comment = h.2 }) (in_sequence (runs w is_blank) (either comment no_comment))

  at_end : To (λ i j. (i ≡ length a) × (j ≡ i)) (λ i j. (i ≡ length b) × (j ≡ i))
  at_end = record { on = λ i j h. omega (arith, h.1); to = λ i j k l u v h. (omega (arith, h.0), omega (arith, h.1)) }

  pub tail : To (Tail a) (Tail b)
  tail = in_sequence skipped (either (line w) at_end)

  -- ---- assignments

  equals : To (Equals a) (Equals b)
  equals = said (λ i j h. (h.at, h.before, (h.here, h.after))) (λ k l h. record { at = h.0; before = h.1; here = h.2.0; after = h.2.1 }) (in_sequence (runs w is_blank) (first w (λ x. x) 61 (runs w is_blank)))

  assignment : (e : ParsedAssignment) (limit : ℕ) → To (AssignmentWith SpellsScalar e a limit) (AssignmentWith SpellsScalar (moved_assignment s t e) b limit)
  assignment e limit =
      said (λ i j h. ((h.key_end, h.key, (h.from, h.sign, h.spelled)), (h.few, h.extent)))
      (λ k l h. record { key_end = h.0.0; from = h.0.2.0; key = h.0.1; few = h.1.0; sign = h.0.2.1; spelled = h.0.2.2; extent = h.1.1 })
      (also {P = λ i j. (length e.parts ≤ limit) × (e.extent ≡ from_to i j)} {Q = λ k l. (length (moved_parts s t e.parts) ≤ limit) × (moved_span s t e.extent ≡ from_to k l)}
      (in_sequence (dotted w e.parts) (in_sequence equals (value_copied w e.value limit (length (moved_parts s t e.parts)) (length e.parts) (omega (arith, length_moved s t e.parts)))))
      (λ i j k l o u v h z. (omega (arith, length_moved s t e.parts, z.0), spans w u v z.1)))

  pub lines : (es before after : List ParsedAssignment) (limit : ℕ) → paths before ≡ paths after → To (AssignmentsWith SpellsScalar es before a limit) (AssignmentsWith SpellsScalar (map (moved_assignment s t) es) after b limit)
  lines [] before after limit same = nothing
  lines (e ∷ es) before after limit same =
      let f = moved_assignment s t e in
      let names = path_moved s t e.parts in
      said (λ i j h. (h.0, h.3, (h.1, h.4, (h.5, (h.2, h.6, h.7))))) (λ k l h. (h.0, h.2.0, h.2.2.1.0, h.1, h.2.1, h.2.2.0, h.2.2.1.1, h.2.2.1.2))
      (in_sequence (assignment e limit) (in_sequence tail (given (λ z. clear_same before after e f same names z)
      (in_sequence (gap w) (lines es (before ++ (e ∷ [])) (after ++ (f ∷ [])) limit (paths_more before after e f same names))))))

  -- ---- headers and sections

  opens : (double : Bool) → To (OpensHeader double a) (OpensHeader double b)
  opens false = record { on = λ i j h. omega (arith, h.2); to = λ i j k l u v h. (byte w (λ x. x) 91 u (omega (arith, h.2)) h.0, stays w (λ c. c == 91) (further 1 (omega (arith, h.2)) u) refl h.1, omega (arith, h.2)) }
  opens true = said (λ i j h. (h.0, (h.1, (let e : j ≡ i + 1 + 1 = omega (arith, h.2) in e)))) (λ k l h. (h.0, h.1.0, omega (arith, h.1.1))) (first w (λ x. x) 91 (first w (λ x. x) 91 nothing))

  closes : (double : Bool) → To (ClosesHeader double a) (ClosesHeader double b)
  closes false = first w (λ x. x) 93 nothing
  closes true = said (λ i j h. (h.0, (h.1, (let e : j ≡ i + 1 + 1 = omega (arith, h.2) in e)))) (λ k l h. (h.0, h.1.0, omega (arith, h.1.1))) (first w (λ x. x) 93 (first w (λ x. x) 93 nothing))

  header : (ps : List SimpleKey) (double : Bool) (limit : ℕ) → To (SpellsHeader ps double a limit) (SpellsHeader (moved_parts s t ps) double b limit)
  header ps double limit =
      said (λ i j h. (let f = h.front in (f.few, (f.inside, f.opens, (f.start, f.before, (f.end, f.key, (h.close, f.after, (h.end, h.shuts, h.rest))))))))
      (λ k l h. (
      let x = h.1 in
      record {
        close = x.2.2.2.0;
        end = x.2.2.2.2.0;
        front = record { inside = x.0; start = x.2.0; end = x.2.2.0; opens = x.1; before = x.2.1; key = x.2.2.1; few = h.0; after = x.2.2.2.1 };
        shuts = x.2.2.2.2.1;
        rest = x.2.2.2.2.2;
      }))
      (given (λ z. omega (arith, length_moved s t ps, z)) (in_sequence (opens double) (in_sequence (runs w is_blank) (in_sequence (dotted w ps) (in_sequence (runs w is_blank) (in_sequence (closes double) tail))))))

  section : (x : ParsedSection) (limit : ℕ) → To (SectionWith SpellsScalar x a limit) (SectionWith SpellsScalar (moved_section s t x) b limit)
  section x limit = record {
    on = λ i j h. omega (arith, (header x.header x.array limit).on i h.end h.header, (body x limit).on h.end j h.lines);
    to = λ i j k l u v h. (
        let p = (header x.header x.array limit).on i h.end h.header in
        let q = (body x limit).on h.end j h.lines in
        let (m, y) = between i j k l h.end p q u v in
        let z : (i + t) - s ≡ k = omega arith in
        record {
          end = m;
          header = (header x.header x.array limit).to i h.end k m u y h.header;
          header_span = spans w u y h.header_span;
          lines = (body x limit).to h.end j m l y v h.lines;
          extent = cc (h.extent, z, end_moved s t h.end m x.assignments (sym y.moved));
        });
  }
    where
      body : (x : ParsedSection) (limit : ℕ) → To (LinesWith SpellsScalar x.assignments a limit) (LinesWith SpellsScalar (map (moved_assignment s t) x.assignments) b limit)
      body x limit = in_sequence (gap w) (lines x.assignments [] [] limit refl)

  sections_within : (xs : List ParsedSection) (limit i : ℕ) → SectionsWith SpellsScalar xs a limit i → i ≤ length a
  sections_within [] limit i h = omega (arith, h)
  sections_within (x ∷ xs) limit i (j, h, more) = omega (arith, (section x limit).on i j h, sections_within xs limit j more)

  pub sections : (xs : List ParsedSection) (limit i k : ℕ) → At s t (length b) 0 i k → SectionsWith SpellsScalar xs a limit i → SectionsWith SpellsScalar (map (moved_section s t) xs) b limit k
  sections [] limit i k u h = omega (arith, h)
  sections (x ∷ xs) limit i k u (j, h, more) =
      let on = (section x limit).on i j h in
      let in_a = sections_within xs limit j more in
      let v : At s t (length b) 0 j ((j + t) - s) = record { after = omega arith; moved = omega arith; inside = omega arith } in
      ((j + t) - s, (section x limit).to i j k ((j + t) - s) u v h, sections xs limit j ((j + t) - s) v more)
