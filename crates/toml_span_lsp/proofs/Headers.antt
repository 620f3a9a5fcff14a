-- The headers of a frame, and where they end.
use Rattle.toml_span_lex.proofs.Common.{◌≡◌, ◌≢◌, ℕ, zero, suc, ◌+◌, ◌-◌, ◌<◌, ◌≤◌, ◌^◌, Bool, true, false, not, List, [], ◌∷◌, ◌++◌, Option, None, Some, length, take, drop, codes, decimal, sym, ap, ap₂, ◌∙◌, refl, subst, arith, nat_tests, append-nil, append_assoc, length-append, length-drop, length-take-le, nil_from_length, take-append-drop, Decides-eqb, ⊎_elim, cases_lt, true≢false, none-some, same_Some, list_all, ltb-true, digit_value, AllByRecursion, IsUtf8}
use Rattle.std.specs.List.{All, starts_with}
use Rattle.std.specs.Str.Parse.{AllDigits}
use Rattle.std.proofs.Math.Dec.{eqb, ltb}
use Rattle.std.proofs.Math.Seq.{drop-append_seam, take-add, take-append_seam}
use Rattle.std.proofs.lemmas.Bool.{cond_above, cond_below}
use Rattle.std.proofs.lemmas.Fmt.{IsAscii-decimal, decimal_is_IsNumeral, length-decimal-le}
use Rattle.std.proofs.lemmas.List.Elements.{All-append, All-from_recursion, All-head, All-tail}
use Rattle.std.proofs.lemmas.List.Sums.{AllPass-from_list_all}
use Rattle.std.proofs.lemmas.Slice.Eq.{starts_is}
use Rattle.std.proofs.lemmas.Str.{IsAscii-append, IsUtf8-from_ascii}
use Rattle.std.proofs.lemmas.Str.Ascii.{IsAscii-from_all}
use Rattle.toml_span_lsp.specs.Frames.{end_of_headers, frame_of, framed, framed_at, head_of, limit}
use Rattle.toml_span_lsp.specs.Served.{AreHeaders, AreHeadersOf, Fits, IsFramed}
use Rattle.toml_span_lsp.specs.declared.frames.Framed.{Framed}
use Rattle.toml_span_lsp.specs.declared.frames.Framed.TheVariants.{Whole, TooLong, Part, Fault}

-- A list that begins as xs does, as far as both go, begins with xs if it is as long.
pub front : (xs ys bytes more : List ℕ) → bytes ++ more ≡ xs ++ ys → length xs ≤ length bytes →
    (zs : List ℕ) × (bytes ≡ xs ++ zs) × (ys ≡ zs ++ more) × (drop (length xs) bytes ≡ zs)
front [] ys bytes more e h = (bytes, refl, sym e, refl)
front (x ∷ xs) ys [] more e h = absurd (omega arith)
front (x ∷ xs) ys (b ∷ bs) more e h =
    let tails : bs ++ more ≡ xs ++ ys = cc in
    let heads : b ≡ x = cc in
    let r = front xs ys bs more tails (omega arith) in
    (r.0, cc (heads, r.1), r.2, r.3)

-- A value that xs lacks comes after xs.
pub after_all : (x : ℕ) (xs ys bytes more rest : List ℕ) (k : ℕ) → All (λ b. b ≢ x) xs → bytes ++ more ≡ xs ++ ys → drop k bytes ≡ x ∷ rest → length xs ≤ k
after_all x [] ys bytes more rest k all e h = omega arith
after_all x (y ∷ xs) ys [] more rest zero all e h = absurd cc
after_all x (y ∷ xs) ys [] more rest (suc k) all e h = absurd cc
after_all x (y ∷ xs) ys (b ∷ bs) more rest zero all e h =
    let same : y ≡ x = cc in
    absurd (All-head (λ c. c ≢ x) y xs all same)
after_all x (y ∷ xs) ys (b ∷ bs) more rest (suc k) all e h =
    let tails : bs ++ more ≡ xs ++ ys = cc in
    omega (arith, after_all x xs ys bs more rest k (All-tail (λ c. c ≢ x) y xs all) tails h)

-- the bytes after the head, if they have been read
pub stop_at : (head p rest bytes more : List ℕ) → bytes ++ more ≡ head ++ (p ++ rest) → length head + length p ≤ length bytes →
    (tail : List ℕ) × (drop (length head) bytes ≡ p ++ tail)
stop_at head p rest bytes more e h =
    let one = front head (p ++ rest) bytes more e (omega arith) in
    let long = ap length one.1 ∙ length-append head one.0 in
    let two = front p rest one.0 more (sym one.2) (omega arith) in
    (two.0, one.3 ∙ two.1)

-- where headers end: at the first empty line
pub ends_at : (head rest bytes more s : List ℕ) (at : ℕ) (r : Bool) → All (λ b. b ≢ 13) head → bytes ++ more ≡ head ++ (codes "\r\n\r\n" ++ rest)
    → s ≡ drop (at - 3) bytes → r ≡ starts_with eqb s (codes "\r\n\r\n") → r ≡ true → 3 ≤ at → at ≤ length head + 3 →
    let found : Option ℕ = Some (at + 1) in found ≡ end_of_headers (length head + 4) (length bytes)
ends_at head rest bytes more s at r lacks is slice tested found from low =
    let here = sym slice ∙ (starts_is Decides-eqb s (codes "\r\n\r\n") r tested).0 found in
    let tail = drop 4 s in
    let least = after_all 13 head (codes "\r\n\r\n" ++ rest) bytes more (10 ∷ 13 ∷ 10 ∷ tail) (at - 3) lacks is here in
    let size : length bytes - (at - 3) ≡ 4 + length tail = sym (length-drop (at - 3) bytes) ∙ ap length here ∙ length-append (codes "\r\n\r\n") tail in
    let same : at + 1 ≡ length head + 4 = omega arith in
    cond_above (length bytes) (length head + 4) None (Some (length head + 4)) (Some (at + 1)) (omega arith) (ap (λ n. Some n) same)

-- headers up to there
pub headers_at : (bytes tail : List ℕ) (at : ℕ) → 3 ≤ at → at < length bytes → drop (at - 3) bytes ≡ codes "\r\n\r\n" ++ tail
    → ((head more rest : List ℕ) → bytes ++ more ≡ head ++ (codes "\r\n\r\n" ++ rest) → at ≤ length head + 3) → AreHeaders (take (at + 1) bytes)
headers_at bytes tail at from within here first =
    let stop = codes "\r\n\r\n" in
    let lines = take (at - 3) bytes in
    let more = drop (at + 1) bytes in
    let four : at + 1 ≡ (at - 3) + length stop = let four : length stop ≡ 4 = refl in omega arith in
    let is : take (at + 1) bytes ≡ lines ++ stop =
    ap (λ k. take k bytes) four ∙ take-add (at - 3) (length stop) bytes ∙ ap (λ xs. lines ++ take (length stop) xs) here ∙ ap (λ xs. lines ++ xs) (take-append_seam stop tail) in (
      lines,
      is,
      λ before after other.
          let whole : bytes ++ [] ≡ before ++ (stop ++ (after ++ more)) =
          append-nil bytes ∙ sym (take-append-drop (at + 1) bytes) ∙ ap (λ xs. xs ++ more) other ∙ append_assoc before (stop ++ after) more ∙ ap (λ xs. before ++ xs) (append_assoc stop after more) in
          let low = first before [] (after ++ more) whole in
          let long = sym (length-take-le (at + 1) bytes (omega arith)) ∙ ap length other ∙ length-append before (stop ++ after) in
          let four : length (stop ++ after) ≡ 4 + length after = length-append stop after in
          nil_from_length after (omega arith),
    )

-- no empty line ends here
pub ends_later : (head rest bytes more s : List ℕ) (at : ℕ) (r : Bool) → bytes ++ more ≡ head ++ (codes "\r\n\r\n" ++ rest)
    → s ≡ drop (at - 3) bytes → r ≡ starts_with eqb s (codes "\r\n\r\n") → r ≡ false → 3 ≤ at → at < length bytes → at ≤ length head + 3 → at + 1 ≤ length head + 3
ends_later head rest bytes more s at r is slice tested missing from within low =
    ⊎_elim (λ below. omega arith) (λ above.
    let same : at - 3 ≡ length head = omega arith in
    let four : length (codes "\r\n\r\n") ≡ 4 = refl in
    let here = stop_at head (codes "\r\n\r\n") rest bytes more is (omega arith) in
    let found = (starts_is Decides-eqb s (codes "\r\n\r\n") r tested).1 here.0 (slice ∙ ap (λ k. drop k bytes) same ∙ here.1) in
    absurd (true≢false (sym found ∙ missing))) (cases_lt at (length head + 3))

differs : (b : ℕ) → not (eqb b 13) ≡ true → b ≢ 13
differs b h e = grind (arith, nat_tests)

no_return : (ds : List ℕ) → AllDigits 10 ds → AllByRecursion (λ b. b ≢ 13) ds
no_return [] h = tt
no_return (d ∷ ds) h =
    let P : ℕ → Type 0 = λ c. digit_value c < 10 in
    let low : d ≢ 13 = λ e. let wrong : 36 < 10 = subst P e h.0 in absurd (omega arith) in
    (low, no_return ds h.1)

-- the header up to the empty line
abbrev pub line_of : ℕ → List ℕ
line_of n = codes "Content-Length: " ++ decimal n

pub line_lacks : (n : ℕ) → n < 2 ^ 64 → All (λ b. b ≢ 13) (line_of n)
line_lacks n small =
    let P : ℕ → Type 0 = λ b. b ≢ 13 in
    let name = AllPass-from_list_all (λ b. not (eqb b 13)) (codes "Content-Length: ") refl in
    let digits = All-from_recursion P (decimal n) (no_return (decimal n) (decimal_is_IsNumeral n small).0.1) in
    All-append P (codes "Content-Length: ") (decimal n) (λ k d h. differs _ (name k d h)) digits

pub line_short : (n : ℕ) → n ≤ limit → length (line_of n) + 4 ≤ 8192
line_short n small =
    omega (arith, length-append (codes "Content-Length: ") (decimal n), length-decimal-le 8 n (omega arith) (omega arith) (omega arith))

pub head_utf8 : (n : ℕ) → n < 2 ^ 64 → IsUtf8 (head_of n)
head_utf8 n small =
    let below = λ (bs : List ℕ) (h : list_all (λ b. ltb b 128) bs ≡ true). IsAscii-from_all bs (λ k d l. ltb-true _ _ (AllPass-from_list_all (λ b. ltb b 128) bs h k d l)) in
    IsUtf8-from_ascii (head_of n) (IsAscii-append (codes "Content-Length: ") (decimal n ++ codes "\r\n\r\n") (below (codes "Content-Length: ") refl)
    (IsAscii-append (decimal n) (codes "\r\n\r\n") (IsAscii-decimal n small) (below (codes "\r\n\r\n") refl)))

-- the frame of a content, as a line and what follows
pub frame_line : (content rest : List ℕ) → frame_of content ++ rest ≡ line_of (length content) ++ (codes "\r\n\r\n" ++ (content ++ rest))
frame_line content rest =
    let name = codes "Content-Length: " in
    let digits = decimal (length content) in
    let stop = codes "\r\n\r\n" in
    ap (λ xs. xs ++ rest) (ap (λ xs. xs ++ content) (sym (append_assoc name digits stop)))
    ∙ ap (λ xs. xs ++ rest) (append_assoc (name ++ digits) stop content)
    ∙ append_assoc (name ++ digits) (stop ++ content) rest
    ∙ ap (λ xs. (name ++ digits) ++ xs) (append_assoc stop content rest)

-- what is left of a text without its known front
pub after_front : (p s x rest : List ℕ) (n : ℕ) → n ≡ length p → s ≡ p ++ rest → x ≡ drop n s → x ≡ rest
after_front p s x rest n size is h = h ∙ ap (λ k. drop k s) size ∙ ap (drop (length p)) is ∙ drop-append_seam p rest

-- and without its known end
pub before_end : (p s x rest : List ℕ) (n : ℕ) → n ≡ length p → s ≡ rest ++ p → x ≡ take (length s - n) s → x ≡ rest
before_end p s x rest n size is h =
    let long : length s - n ≡ length rest = omega (arith, ap length is, length-append rest p) in
    h ∙ ap (λ k. take k s) long ∙ ap (take (length rest)) is ∙ take-append_seam rest p

pub no_end : (len end : ℕ) → let none : Option ℕ = None in none ≡ end_of_headers end len → len < end
no_end len end h = grind (arith, nat_tests)

pub some_end : (start len end : ℕ) → let some : Option ℕ = Some start in some ≡ end_of_headers end len → (start ≡ end) × (end ≤ len)
some_end start len end h = ⊎_elim (λ below. absurd (none-some _ (cond_below len end None (Some end) below ∙ sym h))) (λ above. (same_Some _ _ (h ∙ sym (cond_above len end None (Some end) (Some end) above refl)), above)) (cases_lt len end)

pub length_head : (n : ℕ) → length (head_of n) ≡ length (line_of n) + 4
length_head n =
    omega (arith, length-append (codes "Content-Length: ") (decimal n ++ codes "\r\n\r\n"), length-append (decimal n) (codes "\r\n\r\n"), length-append (codes "Content-Length: ") (decimal n))

pub length_frame : (content : List ℕ) → length (frame_of content) ≡ length (head_of (length content)) + length content
length_frame content = length-append (head_of (length content)) content

-- the headers that have been read
pub head_read : (content more rest bytes : List ℕ) (start : ℕ) → bytes ++ more ≡ frame_of content ++ rest → start ≡ length (line_of (length content)) + 4 → start ≤ length bytes → take start bytes ≡ head_of (length content)
head_read content more rest bytes start is same within =
    let head = head_of (length content) in
    let size = length_head (length content) in
    let begins = front head (content ++ rest) bytes more (is ∙ append_assoc head content rest) (omega arith) in
    let long : start ≡ length head = omega arith in
    ap (λ k. take k bytes) long ∙ ap (take (length head)) begins.1 ∙ take-append_seam head begins.0

pub same_frame : (content : List ℕ) (start count len : ℕ) → start ≡ length (head_of (length content)) → count ≡ length content → framed_at start (start + count) len ≡ framed content len
same_frame content start count len at size =
    let end : start + count ≡ length (frame_of content) = omega (arith, length_frame content) in
    ap₂ (λ a b. framed_at a b len) at end

-- what begins with these headers
pub framed_from : (bytes : List ℕ) (start count : ℕ) (found : Framed) → Fits start count (length bytes) found → start ≤ length bytes → AreHeadersOf count (take start bytes) → IsFramed bytes found
framed_from bytes start count (Whole from end) (at, size, within, short) low heads =
    let same : count ≡ end - from = omega arith in
    (omega arith, within, omega arith, subst (λ n. AreHeadersOf n (take from bytes)) same (subst (λ k. AreHeadersOf count (take k bytes)) (sym at) heads))
framed_from bytes start count (TooLong end) (is, long) low heads = (start, count, low, long, is, heads)
framed_from bytes start count Part fits low heads = tt
framed_from bytes start count (Fault fault) fits low heads = tt
