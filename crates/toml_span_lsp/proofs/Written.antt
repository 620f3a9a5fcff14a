-- Frames that are written one after the other.
use Rattle.toml_span_lex.proofs.Common.{◌≡◌, ℕ, zero, ◌+◌, List, [], ◌++◌, Option, flat_map, length, map, take, sym, subst, ap, ◌∙◌, refl, arith, length-append, take_all, flat_map-append, flat_map-map, Appends, Appends-nil, Appends-trans, Vec, Global}
use Rattle.std.proofs.Math.Seq.{take-append-add}
use Rattle.toml_span_lines.specs.Run.{HasWritten}
use Rattle.toml_span_lsp.specs.Frames.{AreFrames, frame_of}

-- the frames of messages
pub frames_are : (contents view : List (Vec ℕ Global)) (out : List ℕ) → view ≡ contents → out ≡ flat_map (λ content. frame_of content.items) view → out ≡ flat_map frame_of (map (λ content. content.items) contents)
frames_are contents view out same is =
    let bytes : Vec ℕ Global → List ℕ = λ content. content.items in
    let frame : Vec ℕ Global → List ℕ = λ content. frame_of content.items in
    is ∙ ap (flat_map frame) same ∙ sym (flat_map-map frame_of bytes contents)

-- frames after frames are frames
pub both_frames : (xs ys : List ℕ) → AreFrames xs → AreFrames ys → AreFrames (xs ++ ys)
both_frames xs ys (one, first) (other, second) =
    (one ++ other, ap (λ zs. zs ++ ys) first ∙ ap (λ zs. flat_map frame_of one ++ zs) second ∙ sym (flat_map-append frame_of one other))

pub nothing_written : (a : Option (List ℕ)) → HasWritten a a []
nothing_written a = (0, omega arith, Appends-nil a)

pub written_all : (a b : Option (List ℕ)) (xs : List ℕ) → Appends a b xs → HasWritten a b xs
written_all a b xs all =
    let P : List ℕ → Type 0 = λ bytes. Appends a b bytes in
    (length xs, omega arith, subst P (sym (take_all (length xs) xs (omega arith))) all)

pub written_then : (a b c : Option (List ℕ)) (xs ys : List ℕ) → Appends a b xs → HasWritten b c ys → HasWritten a c (xs ++ ys)
written_then a b c xs ys before (n, within, after) =
    let P : List ℕ → Type 0 = λ bytes. Appends a c bytes in
    (length xs + n, omega (arith, length-append xs ys, within), subst P (sym (take-append-add xs ys n)) (Appends-trans a b c xs (take n ys) before after))
