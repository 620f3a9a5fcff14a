-- An allocation can fail only if there is something to place.
use Rattle.toml_span_lex.proofs.Common.{◌≡◌, ℕ, ◌<◌, ◌≤◌, Bool, List, [], ◌∷◌, ◌++◌, map, length, arith, Result, Ok, Err, refl, ◌∙◌, IsOk, false≢true, AllocError, nat_tests, common_steps}
use Rattle.toml_span_lex.specs.declared.stop.Stop.{Stop}
use Rattle.toml_span_lex.specs.declared.stop.Stop.TheVariants as stops
use Rattle.toml_span_lex.specs.Text.{FirstPlace}
use Rattle.toml_span.specs.Parsing.{IsTree}
use Rattle.toml_span.specs.declared.sections.Assembly.{Assembly}
use Rattle.toml_span_read.specs.declared.fault.Fault.{Fault}
use Rattle.toml_span_tree.specs.declared.error.Error.{Error}
use Rattle.toml_span_tree.specs.declared.value.Value.{Value}
use Rattle.toml_span_read.specs.declared.section.Section.{Section}
use Rattle.toml_span_read.specs.Data.{ParsedAssignment, ParsedSection, parsed_section, headerless_section, SimpleKey}
use Rattle.toml_span_read.specs.Gaps.{MaximalGap}
use Rattle.toml_span_read.specs.Keys.{SpellsKey}
use Rattle.toml_span_read.specs.Grammar.{OpensHeader, SpellsSection, AssignmentsWith, SectionsWith, SpellsScalar}
use Rattle.toml_span_read.specs.Read as read
use Rattle.toml_span_read.proofs.ReadSound.{document_sound}
use Rattle.toml_span_read.specs.Reading.{AllocatesOnlyAfterGap}
use Rattle.toml_span_read.proofs.MemoryLemmas.{HoldsForm}
use Rattle.toml_span_read.proofs.InsideLemmas.{ascend_forward}
use Rattle.toml_span_read.proofs.KeyOrder.{dotted_ascend}

-- a key begins before the end of the text
key-before : (ps : List SimpleKey) (text : List ℕ) (i j : ℕ) → SpellsKey ps text i j → i < length text
key-before [] text i j h = absurd h
key-before (p ∷ ps) text i j h = grind (arith, nat_tests, common_steps, ascend_forward, dotted_ascend)

opens-forward : (array : Bool) (text : List ℕ) (i j : ℕ) → OpensHeader array text i j → i ≤ j
opens-forward array text i j h = grind (arith, nat_tests, common_steps)

section-before : (b : ParsedSection) (text : List ℕ) (limit i j : ℕ) → SpellsSection b text limit i j → i < length text
section-before b text limit i j h = grind (arith, nat_tests, common_steps, key-before, opens-forward)

-- where a section is spelled, there is more than blank lines
sections-hold : (es : List ParsedAssignment) (bs : List ParsedSection) (text : List ℕ) (limit start k j : ℕ) → MaximalGap text start k → AssignmentsWith SpellsScalar es [] text limit k j → SectionsWith SpellsScalar bs text limit j
    → (headerless_section es ++ bs ≡ [] → ⊥) → HoldsForm text start
sections-hold [] [] text limit start k j gap h rest some = absurd (some refl)
sections-hold [] (b ∷ bs) text limit start k j gap h (e, here, rest) some = (k, gap, omega (arith, section-before b text limit j e here, h))
sections-hold (ev ∷ es) bs text limit start k j gap (m, n, q, h, t, c, g, r) rest some = (k, gap, key-before ev.parts text k h.key_end h.key)

no-sections : (ss : List Section) → map parsed_section ss ≡ [] → ss ≡ []
no-sections [] none = refl
no-sections (s ∷ ss) none = cc

-- a tree for which nothing is allocated if there are no sections
pub keeps-placed : (ss : List Section) (text : List ℕ) (limit : ℕ) (r : Result Value (Stop Error)) → read.document text limit (Ok (map parsed_section ss)) → (ss ≡ [] → IsOk r)
    → (start : ℕ) × FirstPlace text start × AllocatesOnlyAfterGap text start r
keeps-placed ss text limit (Ok root) given bare = let h = document_sound (map parsed_section ss) text limit given in (h.start, h.begins, tt)
keeps-placed ss text limit (Err (stops.Fault error)) given bare = let h = document_sound (map parsed_section ss) text limit given in (h.start, h.begins, tt)
keeps-placed ss text limit (Err (stops.Memory e)) given bare =
    let h = document_sound (map parsed_section ss) text limit given in
    (h.start, h.begins, sections-hold h.first h.rest text limit h.start h.lines.0 h.end h.lines.1 h.lines.2 h.sections (λ none. false≢true (bare (no-sections ss (h.all ∙ none)))))

-- where the reading of a document begins that has a tree
pub begun-tree : (text : List ℕ) (limit : ℕ) (root : Value) → IsTree text limit root → (start : ℕ) × FirstPlace text start × AllocatesOnlyAfterGap {A = Value} {E = Error} text start (Ok root)
begun-tree text limit root (bs, (given, resolves), tree) = let h = document_sound bs text limit given in (h.start, h.begins, tt)

-- a failed allocation is passed on
pub keeps-on : (text : List ℕ) (stop : Stop Fault) (e : AllocError) → stop ≡ stops.Memory e → ((start : ℕ) × FirstPlace text start × AllocatesOnlyAfterGap {A = Assembly} text start (Err stop))
    → (start : ℕ) × FirstPlace text start × AllocatesOnlyAfterGap {A = Value} {E = Error} text start (Err (stops.Memory e))
keeps-on text stop e is h = rw is at h
