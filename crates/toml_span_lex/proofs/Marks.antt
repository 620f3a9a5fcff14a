-- What vector instructions do lane by lane.
use Rattle.toml_span_lex.proofs.Common.{◌≡◌, ℕ, ◌%◌, ◌^◌, ◌<◌, ◌≤◌, List, [], ◌∷◌, Bool, true, length, map, cond, bit_and, not, eqb-true, nat_eq, nat_lt, cases_lt, get_or, get_or_past, not-false, not-true, prefix_len, IsCharBoundary, ◌+◌, ◌&&◌, ◌==◌, ◌⊎◌, inl, inr, false, refl, sym, ap, ap₂, ◌∙◌, arith, length-map}
use Rattle.std.proofs.lemmas.Simd.{map-map}
use Rattle.toml_span_lex.specs.Bytes.{MaximalRun, is_printed}
use Rattle.toml_span_lex.specs.Pieces.{is_plain}
use Rattle.toml_span_lex.proofs.Tables.{agree_at, agree_below}
use Rattle.std.proofs.Common.{Fits, bit_or, replicate, w8, w64}
use lib.Count.{count_trailing_zeros}
use Rattle.std.specs.Simd.Lanes.{Each1, chunk, mask_l, top, zip2}
use Rattle.std.proofs.lemmas.Nat.Bits.{bit_at-trailing_zeros}
use Rattle.std.specs.Int.{bit_at}
use Rattle.std.proofs.lemmas.Simd.{bit_mask_l, length-chunk, mask_l-mod, none_from_empty_mask, splat_is_map, zip2_of_maps, zip2_splat, zip2_splat_left, run_in_chunk_fails, run_in_chunk_le, run_in_chunk_stops, trailing_mask_l}

-- the lanes of bytes v: the bytes, or what an operator makes of them together with those of another such vector or with
-- c
pub each : (f : ℕ → ℕ → ℕ) (g h : ℕ → ℕ) (v xs ys : List ℕ) → xs ≡ map g v → ys ≡ map h v → zip2 f xs ys ≡ map (λ x. f (g x) (h x)) v
each f g h v xs ys = zip2_of_maps f g h v

pub beside : (f : ℕ → ℕ → ℕ) (v : List ℕ) (c : ℕ) → length v ≡ 16 → zip2 f v (replicate 16 c) ≡ map (λ x. f x c) v
beside f v c n = zip2_splat f v 16 c n

pub after : (f : ℕ → ℕ → ℕ) (c : ℕ) (v : List ℕ) → length v ≡ 16 → zip2 f (replicate 16 c) v ≡ map (λ x. f c x) v
after f c v n = zip2_splat_left f c 16 v n

pub alone : (v : List ℕ) (c : ℕ) → length v ≡ 16 → replicate 16 c ≡ map (λ _. c) v
alone v c n = splat_is_map v 16 c n

pub inverted : (f g : ℕ → ℕ) (v lanes : List ℕ) → lanes ≡ map g v → map f lanes ≡ map (λ x. f (g x)) v
inverted f g v lanes e = ap (map f) e ∙ map-map f g v

marks : (f : ℕ → ℕ) (p : ℕ → Bool) (v : List ℕ) → Each1 (Fits w8) v → ((x : ℕ) → x < 256 → top 7 (f x) ≡ p x) → map (top 7) (map f v) ≡ map p v
marks f p [] fits h = refl
marks f p (x ∷ v) fits h = ap₂ (λ b rest. b ∷ rest) (h x fits.0.fits) (marks f p v fits.1 h)

-- the mask of lanes whose top bits are set where p holds of the byte
pub masked : (f : ℕ → ℕ) (p : ℕ → Bool) (v lanes : List ℕ) → length v ≡ 16 → Each1 (Fits w8) v → lanes ≡ map f v → ((x : ℕ) → x < 256 → top 7 (f x) ≡ p x) → mask_l (map (top 7) lanes) % 2 ^ 64 ≡ mask_l (map p v)
masked f p v lanes n fits e h =
    ap (λ l. mask_l (map (top 7) l) % 2 ^ 64) e ∙ ap (λ l. mask_l l % 2 ^ 64) (marks f p v fits h)
    ∙ mask_l-mod (map p v) 64 (omega (arith, length-map v p))

-- the same, by computing at each byte
pub masked_by_table : (f : ℕ → ℕ) (p : ℕ → Bool) (v lanes : List ℕ) → length v ≡ 16 → Each1 (Fits w8) v → lanes ≡ map f v → agree_below (λ x. top 7 (f x)) p 256 ≡ true → mask_l (map (top 7) lanes) % 2 ^ 64 ≡ mask_l (map p v)
masked_by_table f p v lanes n fits e h = masked f p v lanes n fits e (λ x l. agree_at (λ y. top 7 (f y)) p 256 h x l)

three : (a b c : Bool) → top 7 (bit_or (cond a 0 255) (bit_or (cond b 255 0) (cond c 255 0))) ≡ not (a && not b && not c)
three true true true = refl
three true true false = refl
three true false true = refl
three true false false = refl
three false true true = refl
three false true false = refl
three false false true = refl
three false false false = refl

once : (a b : Bool) → not (a && not b && not b) ≡ not (a && not b && not false)
once true true = refl
once true false = refl
once false b = refl

-- a control character that no comment has
pub control_byte : (x : ℕ) → x < 256 → bit_or (bit_and (cond (nat_lt x 32) 255 0) (cond (not (x == 9)) 255 0)) (cond (x == 127) 255 0) ≡ cond (is_printed x) 0 255
unfolding agree_below
control_byte x l =
    eqb-true _ _ (agree_at (λ b. nat_eq (bit_or (bit_and (cond (nat_lt b 32) 255 0) (cond (not (b == 9)) 255 0)) (cond (b == 127) 255 0)) (cond (is_printed b) 0 255)) (λ _. true) 256 refl x l)

-- a byte that strings can't have as it is: a control character, the quote, and what an escape begins with
pub special_byte : (q e x control : ℕ) → control ≡ cond (is_printed x) 0 255 → (q ≡ 34) × (e ≡ 92) ⊎ ((q == 34) ≡ false) × (e ≡ q) → top 7 (bit_or control (bit_or (cond (x == q) 255 0) (cond (x == e) 255 0))) ≡ not (is_plain q x)
special_byte q e x control h (inl t) = rw (h, t.1, t.0) (three (is_printed x) (x == 34) (x == 92))
special_byte q e x control h (inr f) = rw (h, f.0, f.1) (three (is_printed x) (x == q) (x == q) ∙ once (is_printed x) (x == q))

-- ---- runs: the mask m of the 16 bytes from start on has a bit set for each byte that ends the run of bytes that pass

module _ (test : ℕ → Bool) (text : List ℕ) (from start m : ℕ) (before : (k : ℕ) → from ≤ k → k < start → test (get_or text k 0) ≡ true) (room : start + 16 ≤ length text) (marked : m ≡ mask_l (map (λ b. not (test b)) (chunk start 16 text))) where
  pub run_goes_on : m ≡ 0 → (k : ℕ) → from ≤ k → k < start + 16 → test (get_or text k 0) ≡ true
  run_goes_on none k f l =
      elim (cases_lt k start) [
        | inl lt ↦ before k f lt
        | inr ge ↦ not-false _ (none_from_empty_mask (λ b. not (test b)) text start 16 0 room (sym marked ∙ none) k (omega arith) (omega arith))
      ]

  counted : 0 < m → count_trailing_zeros 64 m ≡ prefix_len (λ b. not (not (test b))) (chunk start 16 text)
  counted some =
      rw marked (trailing_mask_l (λ b. not (test b)) 64 (chunk start 16 text) (omega (arith, length-chunk start 16 text room)) (omega (arith, marked)))

  -- the lowest bit that is set is that of one of the sixteen bytes
  counted_short : m < 2 ^ 64 → 0 < m → count_trailing_zeros 64 m < 16
  counted_short small some =
      let r = count_trailing_zeros 64 m in
      let ms = map (λ b. not (test b)) (chunk start 16 text) in
      let set : bit_at m r ≡ 1 = (bit_at-trailing_zeros w64 m some small).1 in
      elim (cases_lt r 16) [
        | inl lt ↦ lt
        | inr ge ↦
            let past : get_or ms r false ≡ false = get_or_past ms r false (omega (arith, length-map (chunk start 16 text) (λ b. not (test b)), length-chunk start 16 text room)) in
            absurd (omega (arith, sym set ∙ ap (λ n. bit_at n r) marked ∙ bit_mask_l ms r ∙ ap (λ b. cond b 1 0) past))
      ]

  pub run_ends : from ≤ start → m < 2 ^ 64 → 0 < m → MaximalRun test text from (start + count_trailing_zeros 64 m)
  run_ends f small some =
      let r = count_trailing_zeros 64 m in
      let le : r ≤ 16 = run_in_chunk_le (λ b. not (test b)) text start 16 r 0 room (counted some) in
      record {
        forward = omega arith;
        within = omega (arith, le);
        passes = λ k a b.
            elim (cases_lt k start) [
              | inl lt ↦ before k a lt
              | inr ge ↦ not-false _ (run_in_chunk_fails (λ b. not (test b)) text start 16 r 0 room (counted some) k (omega arith) (omega arith))
            ];
        stops = λ l. not-true _ (run_in_chunk_stops (λ b. not (test b)) text start 16 r 0 room (counted some) (counted_short small some));
      }

-- where a run ends because of an ASCII byte, or of the text's end, the text may be cut
pub run_boundary : (test : ℕ → Bool) (text : List ℕ) (i j : ℕ) → ((c : ℕ) → test c ≡ false → c < 128) → MaximalRun test text i j → IsCharBoundary text j
run_boundary test text i j ascii run = (run.within, λ l high. absurd (omega (arith, ascii _ (run.stops l))))
