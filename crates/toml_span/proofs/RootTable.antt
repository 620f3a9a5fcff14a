-- The root table of a plain document, section by section.
use Rattle.toml_span_lex.proofs.Common.{◌≡◌, ℕ, ◌<◌, ◌⊎◌, List, [], ◌∷◌, ◌++◌, map, length, inl, IsCharBoundary, get_or, false, BTreeMap, Ok, None, refl, sym, subst, ap, ◌∙◌}
use Rattle.toml_span_lex.specs.declared.key.Key.{Key}
use Rattle.toml_span_tree.specs.declared.value.Value.{Value}
use Rattle.toml_span_read.specs.Data.{ParsedAssignment, ParsedSection, headerless_section, simple_key}
use Rattle.toml_span_lex.specs.Text.{FirstPlace}
use Rattle.toml_span_read.specs.Read as read
use Rattle.toml_span_read.specs.Read.{HeaderEnd}
use Rattle.toml_span_read.proofs.LineRead.{DocumentFrom, document_begins, section_on}
use Rattle.toml_span_read.proofs.ReadSound.{section_sound}
use Rattle.toml_span_tree.specs.Path.{Path}
use Rattle.std.specs.Option.{option_or}
use Rattle.toml_span.specs.code.Machine.{CellMap, no_cells, clash_found, put_all}
use Rattle.toml_span.specs.code.Relative.{section_at, counts_after}
use Rattle.toml_span.specs.Claims.{Claims, header_info, followed, assignments_claims, section_claims, header_claims, claims_after, claims}
use Rattle.toml_span_read.specs.Paths.{elements_added, opened_by, target}
use Rattle.toml_span.specs.code.RootTable.{latest_first, IsRootOf, AddsSection}
use Rattle.toml_span.specs.code.Built.{IsBuilt, BuildsOn}
use Rattle.toml_span.proofs.Absolute.{section_at-is, counts_after-is}
use Rattle.toml_span.proofs.Grafts.{followed-assoc, followed-none, put_all-followed, reported-followed}
use Rattle.toml_span.proofs.Refusals.{some_part}

-- ---- the claims of the sections

latest-more : (bs earlier : List ParsedSection) (b : ParsedSection) → latest_first (bs ++ (b ∷ [])) earlier ≡ b ∷ latest_first bs earlier
unfolding latest_first
latest-more [] earlier b = refl
latest-more (x ∷ bs) earlier b = latest-more bs (x ∷ earlier) b

-- one more section
claims-after-more : (earlier bs : List ParsedSection) (b : ParsedSection)
    → claims_after earlier (bs ++ (b ∷ [])) ≡ followed (claims_after earlier bs) (section_claims (elements_added (opened_by (latest_first bs earlier))) b)
unfolding claims_after latest_first followed
claims-after-more earlier [] b = followed-none (section_claims (elements_added (opened_by earlier)) b)
claims-after-more earlier (x ∷ bs) b =
    ap (followed (section_claims (elements_added (opened_by earlier)) x)) (claims-after-more (x ∷ earlier) bs b)
    ∙ sym (followed-assoc (section_claims (elements_added (opened_by earlier)) x) (claims_after (x ∷ earlier) bs) (section_claims (elements_added (opened_by (latest_first bs (x ∷ earlier)))) b))

pub claims-more : (bs : List ParsedSection) (b : ParsedSection) → claims (bs ++ (b ∷ [])) ≡ followed (claims bs) (section_claims (elements_added (opened_by (latest_first bs []))) b)
claims-more bs b = claims-after-more [] bs b

-- the assignments before the first header
pub claims-first : (es : List ParsedAssignment) → claims (headerless_section es) ≡ assignments_claims es []
unfolding claims_after section_claims header_claims assignments_claims followed target
claims-first [] = refl
claims-first (e ∷ es) = followed-none (assignments_claims (e ∷ es) [])

opened-first : (es : List ParsedAssignment) → opened_by (latest_first (headerless_section es) []) ≡ []
unfolding opened_by latest_first
opened-first [] = refl
opened-first (e ∷ es) = refl

-- ---- while a text is read

-- the sections read so far, and their table; what is read after them completes the document
pub record Growing (text : List ℕ) (limit at : ℕ) (t : BTreeMap Key Value) : Type 0 where
  pub sections : List ParsedSection
  pub whole : DocumentFrom text limit sections at
  pub root : IsRootOf text sections t

-- a section after a header has parts, as the grammar reads it
pub has-parts : (text : List ℕ) (limit at next : ℕ) (b : ParsedSection) → get_or text at 0 ≡ 91 → read.section text limit at (Ok (b, next)) → b.header ≡ [] → b.array ≡ false
has-parts text limit at next b here h = let spelled = section_sound b text limit at next here h in some_part b.array text _ _ b.header spelled.header.front.key

pub growing-more : (text : List ℕ) (limit at next : ℕ) (old new : BTreeMap Key Value) → at < length text → Growing text limit at old → AddsSection text limit at old new next → Growing text limit next new
growing-more text limit at next old new under inv more = record {
  sections = inv.sections ++ (more.section ∷ []);
  whole = section_on text limit at next inv.sections more.section inv.whole under more.read;
  root = more.placed inv.sections inv.root;
}

-- the table after one more section
pub root-more : (text : List ℕ) (bs : List ParsedSection) (b : ParsedSection) (old new : BTreeMap Key Value) → (b.header ≡ [] → b.array ≡ false)
    → BuildsOn text old new (λ e. section_at e (header_info b) b.header (assignments_claims b.assignments [])) (λ e. counts_after e (header_info b) b.header)
    → IsRootOf text bs old → IsRootOf text (bs ++ (b ∷ [])) new
root-more text bs b old new header more inv =
    let earlier = latest_first bs [] in
    let e = elements_added (opened_by earlier) in
    let st = put_all no_cells (claims bs) in
    let now = more st e inv.built in
    let is = section_at-is e b header in
    let after = counts_after e (header_info b) b.header in
    let cells : put_all no_cells (claims (bs ++ (b ∷ []))) ≡ put_all st (section_at e (header_info b) b.header (assignments_claims b.assignments [])) =
    ap (put_all no_cells) (claims-more bs b) ∙ put_all-followed no_cells (claims bs) (section_claims e b) ∙ ap (put_all st) (sym is) in
    let counts : elements_added (opened_by (latest_first (bs ++ (b ∷ [])) [])) ≡ after = ap (λ l. elements_added (opened_by l)) (latest-more bs [] b) ∙ sym (counts_after-is earlier b header) in
    record {
      free =
          ap (clash_found no_cells) (claims-more bs b) ∙ reported-followed no_cells (claims bs) (section_claims e b) ∙ ap (λ o. option_or o (clash_found st (section_claims e b))) inv.free ∙ ap (clash_found st) (sym is)
          ∙ now.0;
      built = subst (λ (f : Path → ℕ). IsBuilt text new (put_all no_cells (claims (bs ++ (b ∷ [])))) f) (sym counts) (subst (λ (c : CellMap). IsBuilt text new c after) (sym cells) now.1);
    }

-- ---- before the first header

pub root-first : (text : List ℕ) (es : List ParsedAssignment) (t : BTreeMap Key Value) → clash_found no_cells (assignments_claims es []) ≡ None → IsBuilt text t (put_all no_cells (assignments_claims es [])) (λ p. 0)
    → IsRootOf text (headerless_section es) t
root-first text es t free shows = record {
  free = ap (clash_found no_cells) (claims-first es) ∙ free;
  built =
      subst (λ (f : Path → ℕ). IsBuilt text t (put_all no_cells (claims (headerless_section es))) f) (sym (ap elements_added (opened-first es)))
      (subst (λ (c : Claims). IsBuilt text t (put_all no_cells c) (λ p. 0)) (sym (claims-first es)) shows);
}

pub growing-first : (text : List ℕ) (limit start next : ℕ) (es : List ParsedAssignment) (t : BTreeMap Key Value) → FirstPlace text start → read.assignment_lines text limit start (Ok (es, next)) → IsRootOf text (headerless_section es) t → Growing text limit next t
growing-first text limit start next es t begins lines root = record {
  sections = headerless_section es;
  whole = document_begins text limit next (headerless_section es) (start, begins, inl ((es, next), lines, refl));
  root = root;
}

-- ---- a section

-- the parts of a header as the code has them
pub adds-section : (text : List ℕ) (limit at next : ℕ) (h : HeaderEnd) (es : List ParsedAssignment) (parts : List Key) (old new : BTreeMap Key Value) → map simple_key parts ≡ h.parts → get_or text at 0 ≡ 91
    → read.header text limit at (Ok h) → read.assignment_lines text limit h.end (Ok (es, next))
    → BuildsOn text old new (λ e. section_at e (header_info (read.headed_section at h es)) (map simple_key parts) (assignments_claims es [])) (λ e. counts_after e (header_info (read.headed_section at h es)) (map simple_key parts))
    → at < next → IsCharBoundary text next → (next ≡ length text) ⊎ (get_or text next 0 ≡ 91) → AddsSection text limit at old new next
adds-section text limit at next h es parts old new same here header lines builds forward boundary ends =
    let b = read.headed_section at h es in
    let found : read.section text limit at (Ok (b, next)) = inl (h, header, inl ((es, next), lines, refl)) in
    record {
      section = b;
      read = found;
      placed = λ bs.
          root-more text bs b old new (has-parts text limit at next b here found)
          (subst (λ ps. BuildsOn text old new (λ e. section_at e (header_info b) ps (assignments_claims es [])) (λ e. counts_after e (header_info b) ps)) same builds);
      forward = forward;
      boundary = boundary;
      header = ends;
    }
