-- The tree of sections, one after another.
use Rattle.std.specs.Global.{Box}
use Rattle.toml_span_lex.proofs.Common.{◌≡◌, ℕ, IfOk, List, [], ◌∷◌, ◌++◌, map, length, false, Option, Some, None, Ok, Err, refl, sym, subst, append_assoc, append-nil, ◌<◌, get_or, inr, Result, ap, ◌∙◌, IfSome, IfNone, is_some, BTreeMap, false≢true, arith, nat_tests, common_steps}
use Rattle.toml_span_lex.specs.declared.key.Key.{Key}
use Rattle.toml_span_lex.specs.declared.span.Span.{Span}
use Rattle.toml_span_tree.specs.Node.{node}
use Rattle.toml_span_tree.specs.Value.{view, inner_view}
use Rattle.toml_span_tree.specs.declared.value.Value.{Value}
use Rattle.toml_span_tree.specs.declared.value.ValueInner.TheVariants.{Table as table_inner}
use Rattle.toml_span_lex.specs.Text.{FirstPlace}
use Rattle.toml_span_lex.specs.declared.stop.Stop.{Stop}
use Rattle.toml_span_read.specs.Borrowed.{AreWrittenRight as AreRightRead, section_written}
use Rattle.toml_span_read.specs.Data.{ParsedSection, parsed_section, parsed_assignment, headerless_section, simple_key}
use Rattle.toml_span_read.specs.code.Faults.{MatchesReading}
use Rattle.toml_span_read.specs.code.Sections.{first_sections, first_found, section_found, sections_found}
use Rattle.toml_span_read.specs.declared.fault.Fault.{Fault}
use Rattle.toml_span_read.specs.declared.section.Section.{Section}
use Rattle.toml_span_read.proofs.MemoryLemmas.{HoldsForm}
use Rattle.toml_span_read.proofs.StepLemmas.{first_keeps}
use Rattle.toml_span_read.proofs.LineRead.{DocumentFrom, sections_end, document_begins, document_read, document_stops, section_on}
use Rattle.toml_span_read.proofs.ReadSound.{first_sound, section_sound}
use Rattle.toml_span.specs.code.Borrowed.{branch_strings, table_held, KeepsBorrows, StaysRight}
use Rattle.toml_span.specs.Borrowed.{first_key, strings_and_keys, AreBorrowedRight}
use Rattle.toml_span.specs.declared.claims.Clash.{Clash}
use Rattle.toml_span.specs.code.ClaimInfos.{PlaceError}
use Rattle.toml_span.specs.declared.branch.Branch.{Branch}
use Rattle.toml_span.specs.Claims.{claims, Claims, followed, assignments_claims, section_claims, claims_after, header_info}
use Rattle.toml_span.specs.Clashes.{first_clash}
use Rattle.toml_span.specs.code.Machine.{named_clash, no_cells, clash_found, put_all}
use Rattle.toml_span.specs.Ordered.{HoldsOrdered}
use Rattle.toml_span.specs.code.Placing.{AreSections, Assembles, ShowsBelow, Places, place_shown}
use Rattle.toml_span.specs.code.Tree.{cells, IsFresh, IsScope, counts}
use Rattle.toml_span.specs.declared.sections.Assembly.{Assembly}
use Rattle.toml_span.specs.code.Assembling.{AssembleReturns, AssemblyBorrows, IsAssemblyOf, IsBare, IsAssembledFrom, AssemblesTo, PlacesAtRoot, Remaining}
use Rattle.toml_span.proofs.Refusals.{first-headed, some_part}
use Rattle.toml_span_tree.proofs.Values.{inner_view-Table}
use Rattle.toml_span_read.specs.Paths.{elements_added, opened_by}
use Rattle.toml_span.specs.Flat.{flat, ShowsExactly}
use Rattle.toml_span.specs.Parsing.{IsBorrowedTree}
use Rattle.toml_span.specs.code.Relative.{section_at, counts_after}
use Rattle.toml_span.proofs.Absolute.{section_at-is, counts_after-is}
use Rattle.toml_span.proofs.Grafts.{reported-followed, put_all-followed}
use Rattle.toml_span.proofs.Judged.{first-met}
use Rattle.toml_span.proofs.Nodes.{cells-fresh, counts-fresh, scope-fresh}
use Rattle.toml_span.proofs.HeldValues.{table-held}
use Rattle.toml_span.proofs.Shown.{first_key-is, shown-flat}
use Rattle.toml_span_lex.specs.declared.stop.Stop.TheVariants as stops
use Rattle.toml_span_read.specs.Read as read

-- ---- a tree and the sections that are left to place

pub remaining-first : (all rest : List ParsedSection) (root : Branch) → rest ≡ all → AreSections all → IsFresh root → Remaining all rest root
unfolding opened_by
remaining-first all rest root same headers fresh = record {
  earlier = [];
  headers = rw same headers;
  clash = rw (cells-fresh root fresh, same) refl;
  putting = rw (cells-fresh root fresh, same) refl;
  counting = counts-fresh root fresh;
  scope = scope-fresh root fresh;
}

pub placed-parsed_section : (s : Section) (parts : List Key) (root new : Branch) (r : Result (Unit {0}) PlaceError) → parts ≡ s.header.items
    → Places root new r (section_at (counts root) (header_info (parsed_section s)) (map simple_key parts) (assignments_claims (map parsed_assignment s.assignments.items) [])) (counts_after (counts root) (header_info (parsed_section s)) (map simple_key parts))
    → PlacesAtRoot (parsed_section s) root new r
placed-parsed_section s parts root new r same h = rw same at h

-- the same, with absolute paths
placed-is : (b : ParsedSection) (earlier : List ParsedSection) (root new : Branch) (r : Result (Unit {0}) PlaceError) → counts root ≡ elements_added (opened_by earlier)
    → (b.header ≡ [] → b.array ≡ false) → PlacesAtRoot b root new r
    → Places root new r (section_claims (elements_added (opened_by earlier)) b) (elements_added (opened_by (b ∷ earlier)))
placed-is b earlier root new r counting header placed = grind (arith, nat_tests, common_steps, counts_after-is, section_at-is)

-- the claims of the next section, followed by those of the others
next-claims : (earlier : List ParsedSection) (b : ParsedSection) (bs : List ParsedSection)
    → claims_after earlier (b ∷ bs) ≡ followed (section_claims (elements_added (opened_by earlier)) b) (claims_after (b ∷ earlier) bs)
unfolding claims_after
next-claims earlier b bs = refl

pub remaining-next : (all old new : List ParsedSection) (b : ParsedSection) (root w : Branch) → old ≡ b ∷ new → Remaining all old root → PlacesAtRoot b root w (Ok tt) → Remaining all new w
remaining-next all old new b root w steps inv placed =
    let headers : AreSections (b ∷ new) = subst AreSections steps inv.headers in
    let h = placed-is b inv.earlier root w (Ok tt) inv.counting headers.0 placed inv.scope in
    record {
      earlier = b ∷ inv.earlier;
      headers = headers.1;
      clash = grind (arith, nat_tests, common_steps, next-claims, reported-followed, inv.clash);
      putting = grind (arith, nat_tests, common_steps, next-claims, put_all-followed, inv.putting);
      counting = h.1.1;
      scope = h.1.2.0;
    }

pub assembles-err : (all old new : List ParsedSection) (length : ℕ) (b : ParsedSection) (root w : Branch) (q : Result Value PlaceError) (e : PlaceError)
    → old ≡ b ∷ new → Remaining all old root → q ≡ Err e → PlacesAtRoot b root w (Err e) → Assembles all length q
assembles-err all old new length b root w q (stops.Memory m) steps inv same placed = rw same tt
assembles-err all old new length b root w q (stops.Fault c) steps inv same placed =
    let headers : AreSections (b ∷ new) = subst AreSections steps inv.headers in
    let h = placed-is b inv.earlier root w (Err (stops.Fault c)) inv.counting headers.0 placed inv.scope in
    grind (arith, nat_tests, common_steps, first-met, next-claims, reported-followed, inv.clash)

-- the tree shows what the root keeps, which is the flat document
shows-flat : (length : ℕ) (cs : Claims) (t : BTreeMap Key Value) (root : Branch) → cells root ≡ put_all no_cells cs → ShowsBelow (inner_view (table_inner t)) (cells root)
    → ShowsExactly (node (inner_view (table_inner t)) (record { start = 0; end = length })) (flat length cs)
unfolding flat
shows-flat length cs t root is below [] = rw (inner_view-Table t) refl
shows-flat length cs t root is below (s ∷ p) = below s p ∙ ap (λ st. place_shown (st (s ∷ p))) is ∙ shown-flat length cs s p

root-put : (all : List ParsedSection) (root : Branch) → Remaining all [] root → cells root ≡ put_all no_cells (claims all)
unfolding claims_after put_all
root-put all root inv = grind (arith, nat_tests, common_steps, inv.putting)

pub assembles-ok : (all rest : List ParsedSection) (length : ℕ) (t : BTreeMap Key Value) (root : Branch) (v : Value) → rest ≡ [] → Remaining all rest root
    → (IsScope root → ShowsBelow (inner_view (table_inner t)) (cells root) × HoldsOrdered (inner_view (table_inner t)) × StaysRight root (table_held t.entries)) → view v ≡ node (inner_view (table_inner t)) (record { start = 0; end = length })
    → Assembles all length (Ok v)
unfolding claims_after clash_found put_all
assembles-ok all [] length t root v done inv finished is =
    let below = finished inv.scope in
    let put = root-put all root inv in
    let reported : first_clash (claims all) ≡ None = grind (arith, nat_tests, common_steps, first-met, inv.clash) in
    (reported, rw is (shows-flat length (claims all) t root put below.0), rw is (below.1))
assembles-ok all (b ∷ rest) length t root v done inv finished is = cc

-- ---- the tree of the sections so far

pub assembles-none : (root : Branch) → IsFresh root → AssemblesTo [] root None
assembles-none root fresh rest headed = remaining-first rest rest root refl headed fresh

pub assembles-more : (bs : List ParsedSection) (b : ParsedSection) (root new : Branch) (o : Option (Box Clash)) → is_some o ≡ false → AreSections (b ∷ []) → AssemblesTo bs root o → PlacesAtRoot b root new (Ok tt) → AssemblesTo (bs ++ (b ∷ [])) new o
assembles-more bs b root new (Some c) none headed assembles placed = absurd (false≢true (sym none))
assembles-more bs b root new None none headed assembles placed = grind (arith, nat_tests, common_steps, append_assoc, remaining-next)

pub assembles-clash : (bs : List ParsedSection) (b : ParsedSection) (root new : Branch) (o : Option (Box Clash)) (error : PlaceError) (c : Box Clash) → is_some o ≡ false → error ≡ stops.Fault c → AreSections (b ∷ []) → AssemblesTo bs root o
    → PlacesAtRoot b root new (Err error) → AssemblesTo (bs ++ (b ∷ [])) new (Some c)
assembles-clash bs b root new (Some d) error c none is headed assembles placed = absurd (false≢true (sym none))
assembles-clash bs b root new None error c none is headed assembles placed = λ rest are.
    let reported = assembles-err (bs ++ (b ∷ rest)) (b ∷ rest) rest 0 b root new (Err (stops.Fault c)) (stops.Fault c) refl (assembles (b ∷ rest) (headed.0, are)) refl (rw is at placed) in
    rw append_assoc reported

pub right-more : (text : List ℕ) (root new : Branch) (o : Option (Box Clash)) → is_some o ≡ false → IfNone o (AreBorrowedRight text (branch_strings root)) → KeepsBorrows text root new (Ok tt)
    → IfNone o (AreBorrowedRight text (branch_strings new))
right-more text root new (Some c) none right keeps = absurd (false≢true (sym none))
right-more text root new None none right keeps = (keeps right).0

pub finish-tree : (bs : List ParsedSection) (length : ℕ) (t : BTreeMap Key Value) (root : Branch) (v : Value) → AssemblesTo bs root None
    → (IsScope root → ShowsBelow (inner_view (table_inner t)) (cells root) × HoldsOrdered (inner_view (table_inner t)) × StaysRight root (table_held t.entries)) → view v ≡ node (inner_view (table_inner t)) (record { start = 0; end = length })
    → Assembles bs length (Ok v)
finish-tree bs length t root v assembles finished shows = assembles-ok bs [] length t root v refl (rw append-nil at (assembles [] tt)) finished shows

-- what is borrowed correctly in the root is so in the tree, by the first claims of the document
pub finish-right : (text : List ℕ) (bs : List ParsedSection) (span : Span) (t : BTreeMap Key Value) (root : Branch) (v : Value) → AssemblesTo bs root None
    → (IsScope root → ShowsBelow (inner_view (table_inner t)) (cells root) × HoldsOrdered (inner_view (table_inner t)) × StaysRight root (table_held t.entries)) → (v.value ≡ Some (table_inner t)) × (v.span ≡ span)
    → AreBorrowedRight text (branch_strings root) → AreBorrowedRight text (strings_and_keys v (first_key (claims bs)))
finish-right text bs span t root v assembles finished kept right =
    let inv : Remaining bs [] root = rw append-nil at (assembles [] tt) in
    rw (table-held v t span kept, ← first_key-is (claims bs), ← root-put bs root inv) ((finished inv.scope).2 text right)

pub finish-clash : (bs : List ParsedSection) (length : ℕ) (root : Branch) (c : Box Clash) → AssemblesTo bs root (Some c) → Assembles bs length (Err (stops.Fault c))
finish-clash bs length root c assembles = subst (λ all. first_clash (claims all) ≡ Some (named_clash c)) (append-nil bs) (assembles [] tt)

pub tree_borrows : {E : Type 0} (bs : List ParsedSection) (text : List ℕ) (limit : ℕ) (r : Result Value E) → read.document text limit (Ok bs) → IfOk r (λ root. AreBorrowedRight text (strings_and_keys root (first_key (claims bs))))
    → IfOk r (IsBorrowedTree text limit)
tree_borrows bs text limit (Ok root) given h = (bs, given, h)
tree_borrows bs text limit (Err e) given h = tt

-- ---- while a text is read

-- the sections read so far, and their tree
pub record Assembling (text : List ℕ) (limit at : ℕ) (g : Assembly) : Type 0 where
  pub sections : List Section
  pub whole : DocumentFrom text limit (map parsed_section sections) at
  pub assembles : IsAssemblyOf (map parsed_section sections) g
  pub bare : sections ≡ [] → IsBare g
  pub borrows : AssemblyBorrows text g

first-are : (text : List ℕ) (limit at : ℕ) (o : Option Section) → read.before_headers text limit (Ok (first_sections o, at)) → AreSections (first_sections o)
first-are text limit at o h =
    let (start, es, begins, lines, same, end) = first_sound (first_sections o) text limit at h in
    subst AreSections (sym same) (subst AreSections (append-nil (headerless_section es)) (first-headed es [] tt))

pub assembling-first : (text : List ℕ) (limit at : ℕ) (o : Option Section) (g : Assembly) → IfSome o (λ s. AreRightRead text (section_written s)) → read.before_headers text limit (Ok (first_sections o, at))
    → (AreSections (first_sections o) → IsAssemblyOf (first_sections o) g)
    → ((t : List ℕ) → IfSome o (λ s. AreRightRead t (section_written s)) → AssemblyBorrows t g) → (o ≡ None → IsBare g)
    → Assembling text limit at g
assembling-first text limit at None g right h assembles borrows bare =
    record { sections = []; whole = document_begins text limit at [] h; assembles = assembles tt; bare = λ none. bare refl; borrows = borrows text tt }
assembling-first text limit at (Some s) g right h assembles borrows bare = record {
  sections = s ∷ [];
  whole = document_begins text limit at (parsed_section s ∷ []) h;
  assembles = assembles (first-are text limit at (Some s) h);
  bare = λ none. cc;
  borrows = borrows text right;
}

never-empty : (ss : List Section) (s : Section) → ss ++ (s ∷ []) ≡ [] → ⊥
never-empty ss s none = grind (arith, nat_tests, common_steps)

-- a section after a header has parts, as the grammar reads it
headed : (text : List ℕ) (limit at next : ℕ) (s : Section) → get_or text at 0 ≡ 91 → read.section text limit at (Ok (parsed_section s, next)) → AreSections (parsed_section s ∷ [])
headed text limit at next s here h =
    let spelled = section_sound (parsed_section s) text limit at next here h in (some_part (parsed_section s).array text _ _ (parsed_section s).header spelled.header.front.key, tt)

pub assembling-more : (text : List ℕ) (limit at next : ℕ) (s : Section) (g new : Assembly) → at < length text → get_or text at 0 ≡ 91 → AreRightRead text (section_written s) → read.section text limit at (Ok (parsed_section s, next)) → Assembling text limit at g
    → ((bs : List ParsedSection) → AreSections (parsed_section s ∷ []) → IsAssemblyOf bs g → IsAssemblyOf (bs ++ (parsed_section s ∷ [])) new)
    → ((t : List ℕ) → AreRightRead t (section_written s) → AssemblyBorrows t g → AssemblyBorrows t new)
    → Assembling text limit next new
assembling-more text limit at next s g new under here right h old assembles borrows = record {
  sections = old.sections ++ (s ∷ []);
  whole = rw (sections_end old.sections (old.sections ++ (s ∷ [])) s refl) (section_on text limit at next (map parsed_section old.sections) (parsed_section s) old.whole under h);
  assembles = subst (λ bs. IsAssemblyOf bs new) (sym (sections_end old.sections (old.sections ++ (s ∷ [])) s refl)) (assembles (map parsed_section old.sections) (headed text limit at next s here h) old.assembles);
  bare = λ none. absurd (never-empty old.sections s none);
  borrows = borrows text right old.borrows;
}

pub first-refused : (stop : Stop Fault) (text : List ℕ) (limit : ℕ) → MatchesReading first_found (read.before_headers text limit) (Err stop) → AssembleReturns text limit (Err stop)
unfolding read.document
first-refused (stops.Memory e) text limit h = tt
first-refused (stops.Fault e) text limit h = inr (e, h, refl)

pub section-refused : (stop : Stop Fault) (text : List ℕ) (limit at : ℕ) (g : Assembly) → at < length text → Assembling text limit at g → MatchesReading section_found (read.section text limit at) (Err stop) → AssembleReturns text limit (Err stop)
section-refused (stops.Memory e) text limit at g under old h = tt
section-refused (stops.Fault e) text limit at g under old h = document_stops sections_found (stops.Fault e) text limit at (map parsed_section old.sections) old.whole under h

pub assembly-whole : (text : List ℕ) (limit at : ℕ) (g : Assembly) → Assembling text limit at g → at ≡ length text → IsAssembledFrom text limit g
assembly-whole text limit at g h end = record {
  sections = h.sections;
  document = document_read text limit at (map parsed_section h.sections) h.whole end;
  assembles = h.assembles;
  bare = h.bare;
  borrows = h.borrows;
}

-- ---- failed allocations

-- where a section is placed, there is something to store
pub begin-keeps : (text : List ℕ) (limit at : ℕ) (o : Option Section) → read.before_headers text limit (Ok (first_sections o, at)) → (o ≡ None → ⊥) → (i : ℕ) × FirstPlace text i × HoldsForm text i
begin-keeps text limit at None given some = absurd (some refl)
begin-keeps text limit at (Some s) given some = first_keeps text limit at (Some s) s refl given
