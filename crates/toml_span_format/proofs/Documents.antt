-- Documents that are the same.
use Rattle.toml_span_lex.proofs.Common.{◌≡◌, ℕ, Bool, List, [], ◌∷◌, ap, map, refl, subst, sym}
use Rattle.std.specs.List.Sorted.{IsPermutation, IsSortedBy}
use Rattle.std.proofs.lemmas.List.Sorted.{IsPermutation-map}
use Rattle.toml_span_read.specs.Data.{parsed_section}
use Rattle.toml_span_syntax.specs.declared.pieces.Piece.{Piece}
use Rattle.toml_span_format.specs.Document.{HasEntries, IsRead, SameDocument, SameTokens, SortedDocument, SortsEntries}
use Rattle.toml_span_format.specs.Entries.{begins_with_comment, content, is_before, rank}
use Rattle.toml_span_format.specs.Keys.{keys}
use Rattle.toml_span_format.specs.Permuted.{PermutedSections}
use Rattle.toml_span_format.specs.declared.entries.Entry.{Entry}
use Rattle.toml_span_format.specs.Tokens.{tokens}
use Rattle.toml_span_format.specs.declared.read.Document.{Document}

-- A document is the same as itself.
pub unchanged : (text new : List ℕ) (d : Document) → d.text.now ≡ text → IsRead d → new ≡ text → SameDocument text new
unchanged text new d is read same =
    let bs = map parsed_section d.sections.items in
    let ts = tokens d.text.now d.pieces.items in
    let itself : SameDocument d.text.now d.text.now = (
      (bs, bs, read.is_document, read.is_document, refl),
      (ts, (d.pieces.items, read.covers, refl), (d.pieces.items, read.covers, refl)),
    ) in
    subst (SameDocument text) (sym same) (subst (λ t. SameDocument t t) is itself)

pub same_lists : (old new : Document) → IsRead old → IsRead new → tokens old.text.now old.pieces.items ≡ tokens new.text.now new.pieces.items → SameTokens old.text.now new.text.now
same_lists old new one two same = (tokens old.text.now old.pieces.items, (old.pieces.items, one.covers, refl), (new.pieces.items, two.covers, same))

-- the ranks of contents
ranks : (text : List ℕ) (ps : List Piece) (ks : List (List (List ℕ))) (es : List Entry) → map (rank ks) es ≡ map (λ d. d.rank) (map (content text ps ks) es)
ranks text ps ks [] = refl
ranks text ps ks (e ∷ es) = ap (λ l. rank ks e ∷ l) (ranks text ps ks es)

-- The entries of a document are those of a text that was read.
pub sorts : (old after : Document) (new : List ℕ) (ks : List (List (List ℕ))) (headed : Bool) (es found : List Entry) → IsRead old → after.text.now ≡ new → IsRead after → PermutedSections (map parsed_section old.sections.items) (map parsed_section after.sections.items) → HasEntries after.text.now after.pieces.items headed found → map (content old.text.now old.pieces.items ks) es ≡ map (content after.text.now after.pieces.items (keys (map parsed_section after.sections.items))) found → IsSortedBy is_before (map (rank ks) es) → SortsEntries old ks headed es new
sorts old after new ks headed es found one is two permuted has same ascends =
    let bs = map parsed_section old.sections.items in
    let cs = map parsed_section after.sections.items in
    subst (SortsEntries old ks headed es) is (
      (bs, cs, one.is_document, two.is_document, permuted),
      (cs, after.pieces.items, found, two.is_document, two.covers, has, same),
      ascends,
    )

-- The entries of a document, sorted, are those of a new text.
pub sorted_document : (d : Document) (text new : List ℕ) (ks : List (List (List ℕ))) (headed : Bool) (es moved : List Entry) → d.text.now ≡ text → IsRead d → ks ≡ keys (map parsed_section d.sections.items) → headed ≡ begins_with_comment d.pieces.items → HasEntries d.text.now d.pieces.items headed es → IsPermutation es moved → SortsEntries d ks headed moved new → SortedDocument text new
sorted_document d text new ks headed es moved is read names begins has permuted sorted =
    let bs = map parsed_section d.sections.items in
    let ps = d.pieces.items in
    let f = content d.text.now ps ks in
    let same : map f es ≡ map (content d.text.now ps (keys bs)) es = ap (λ l. map (content d.text.now ps l) es) names in
    subst (λ t. SortedDocument t new) is (
      sorted.0,
      (
        headed,
        map f es,
        map f moved,
        (ps, read.covers, begins),
        (bs, ps, es, read.is_document, read.covers, has, same),
        sorted.1,
        IsPermutation-map f es moved permuted,
        subst (IsSortedBy is_before) (ranks d.text.now ps ks moved) sorted.2,
      ),
    )
