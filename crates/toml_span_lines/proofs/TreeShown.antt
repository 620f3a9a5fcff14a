-- The lines of a tree show the places that the tree has.
use Rattle.toml_span_lex.proofs.Common.{◌≡◌, ℕ, true, List, length, None, ◌∙◌, sym}
use Rattle.toml_span_tree.specs.declared.value.Value.{Value}
use Rattle.toml_span_tree.specs.Value.{view, is_whole}
use Rattle.toml_span_tree.specs.Node.{Node}
use Rattle.toml_span_read.specs.Data.{ParsedSection}
use Rattle.toml_span.specs.Claims.{claims}
use Rattle.toml_span.specs.Flat.{flat, ShowsExactly}
use Rattle.toml_span.specs.Ordered.{IsOrdered}
use Rattle.toml_span.specs.Parsing.{IsTree}
use Rattle.toml_span_lines.specs.Lines.{tree_lines}
use Rattle.toml_span_lines.specs.Shown.{ShowsDocument, ShowsPlaces}
use Rattle.toml_span_lines.proofs.Entries.{node_entries}
use Rattle.toml_span_lines.proofs.EntryLines.{tree-lines}
use Rattle.toml_span_lines.proofs.EntryOrder.{node-ascends}
use Rattle.toml_span_lines.proofs.EntryPlaces.{node-places}

-- the lines of a tree that shows a document show that document
tree-shown : (n : Node) (length : ℕ) (sections : List ParsedSection) → IsOrdered n → is_whole n ≡ true → ShowsExactly n (flat length (claims sections)) → ShowsPlaces (flat length (claims sections)) (tree_lines n)
tree-shown n length sections ordered whole shows =
    let places = node-places n ordered in (
      node_entries None n,
      node-ascends None n ordered,
      (λ p x. (λ h. (places p x).0 (shows p ∙ h), λ h. sym (shows p) ∙ (places p x).1 h)),
      tree-lines n whole,
    )

-- the lines of a text's tree are those of its document
pub tree-document : (bytes : List ℕ) (limit : ℕ) (root : Value) (text : List ℕ) → IsTree bytes limit root → is_whole (view root) ≡ true → text ≡ tree_lines (view root) → ShowsDocument bytes limit text
tree-document bytes limit root text tree whole lines =
    let (sections, has, made) = tree in
    let shown = tree-shown (view root) (length bytes) sections made.ordered whole made.shows in
    record {
      sections = sections;
      read = has.0;
      resolves = has.1;
      shown = (shown.0, shown.1, shown.2, lines ∙ shown.3);
    }
