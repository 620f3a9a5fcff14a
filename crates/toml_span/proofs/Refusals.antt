-- The result of the reader and of placing the sections is that of `parse`.
use Rattle.std.specs.Global.{Box}
use Rattle.toml_span_lex.proofs.Common.{◌≡◌, Some, ℕ, Bool, true, false, List, [], ◌∷◌, ◌++◌, length, inl, Result, Ok, Err, IfOk, arith, nat_tests, common_steps}
use Rattle.toml_span_lex.specs.declared.stop.Stop.{Stop}
use Rattle.toml_span_lex.specs.declared.stop.Stop.TheVariants as stops
use Rattle.toml_span_tree.specs.declared.error.Error.{Error}
use Rattle.toml_span_tree.specs.declared.value.Value.{Value}
use Rattle.toml_span_read.specs.declared.fault.Fault.{Fault}
use Rattle.toml_span_tree.specs.Error.{content_of}
use Rattle.toml_span_tree.specs.Value.{is_whole, view}
use Rattle.toml_span_read.specs.Data.{ParsedAssignment, ParsedSection, headerless_section, SimpleKey}
use Rattle.toml_span_read.specs.code.Faults.{IsPlacedStop}
use Rattle.toml_span_read.specs.Faults.{fault_content}
use Rattle.toml_span_read.specs.Keys.{SpellsKey}
use Rattle.toml_span_read.specs.Read as read
use Rattle.toml_span_read.specs.Grammar.{SpellsDocument, SectionsWith, SpellsScalar}
use Rattle.toml_span.specs.declared.claims.Clash.{Clash}
use Rattle.toml_span.specs.code.ClaimInfos.{PlaceError}
use Rattle.toml_span.specs.Claims.{claims}
use Rattle.toml_span.specs.Clashes.{first_clash}
use Rattle.toml_span.specs.code.Machine.{named_clash}
use Rattle.toml_span.specs.code.Assembling.{AssembleReturns}
use Rattle.toml_span.specs.Parsing.{IsParseResult}
use Rattle.toml_span.proofs.Ordered.{one-each}
use Rattle.toml_span.proofs.ShownWhole.{shown-whole}
use Rattle.toml_span.specs.code.Placing.{AreSections, Assembles}

-- a fault of reading is reported as an error
pub answers-fault : (text : List ℕ) (limit : ℕ) (stop : Stop Fault) (fault : Fault) (error : Error) → stop ≡ stops.Fault fault → AssembleReturns text limit (Err stop) → IsPlacedStop text stop
    → content_of error ≡ fault_content text fault → IsParseResult text limit (Err (stops.Fault error))
answers-fault text limit stop fault error is reported placed tells = inl (fault, rw is at reported, (rw is at placed, tells))

-- ---- the sections that a text spells

-- a dotted key has a part
pub some_part : (array : Bool) (text : List ℕ) (i j : ℕ) (ps : List SimpleKey) → SpellsKey ps text i j → ps ≡ [] → array ≡ false
some_part array text i j ps key none = absurd (rw none at key)

sections-headed : (bs : List ParsedSection) (text : List ℕ) (limit i : ℕ) → SectionsWith SpellsScalar bs text limit i → AreSections bs
sections-headed [] text limit i h = tt
sections-headed (b ∷ bs) text limit i (j, here, rest) = grind (arith, nat_tests, common_steps, some_part, sections-headed bs text limit j rest)

pub first-headed : (evs : List ParsedAssignment) (bs : List ParsedSection) → AreSections bs → AreSections (headerless_section evs ++ bs)
first-headed evs bs h = grind (arith, nat_tests, common_steps)

-- only a section without a header has no parts, and it is not an element of an array of tables
pub spelled-headed : (bs : List ParsedSection) (text : List ℕ) (limit : ℕ) → SpellsDocument bs text limit → AreSections bs
spelled-headed bs text limit h = grind (arith, nat_tests, common_steps, first-headed, sections-headed)

-- ---- their tree, or their first clash

pub answers-tree : (text : List ℕ) (limit : ℕ) (bs : List ParsedSection) (root : Value) → read.document text limit (Ok bs) → Assembles bs (length text) (Ok root) → IsParseResult text limit (Ok root)
answers-tree text limit bs root given (resolves, shows, ordered) = (bs, (given, resolves), record { shows = shows; ordered = ordered })

pub whole-tree : (text : List ℕ) (limit : ℕ) (r : Result Value (Stop Error)) → IsParseResult text limit r → IfOk r (λ root. is_whole (view root) ≡ true)
whole-tree text limit (Err stop) h = tt
whole-tree text limit (Ok root) (bs, has, tree) = shown-whole (view root) (length text) bs (one-each (view root) tree.ordered) tree.shows

-- if placing ends with a clash, it is the first one
pub first-of-error : (bs : List ParsedSection) (n : ℕ) (error : PlaceError) (c : Box Clash) → error ≡ stops.Fault c → Assembles bs n (Err error) → first_clash (claims bs) ≡ Some (named_clash c)
first-of-error bs n error c is h = rw is at h
