-- Frames (LSP 3.17, Base Protocol).
use Rattle.std.specs.Prelude.{◌≡◌, ℕ, ◌≤◌, ◌++◌, List, Option, None, Some, codes, cond, decimal, length, nat_lt}
use Rattle.std.specs.List.{flat_map}
use Rattle.toml_span_lines.specs.Run.{HasWritten}
use Rattle.toml_span_lsp.specs.declared.frames.Framed.{Framed}
use Rattle.toml_span_lsp.specs.declared.frames.Framed.TheVariants.{Part, Whole}

-- the header of a frame, with the length of its content in bytes, and an empty line
abbrev pub head_of : ℕ → List ℕ
head_of n = codes "Content-Length: " ++ (decimal n ++ codes "\r\n\r\n")

-- the frame with this content
abbrev pub frame_of : List ℕ → List ℕ
frame_of content = head_of (length content) ++ content

-- the maximum length of the content of a frame
abbrev pub limit : ℕ
limit = 67108864

abbrev pub IsShort : List ℕ → Type 0
IsShort content = length content ≤ limit

-- where headers end that are this long, if n bytes have been read
abbrev pub end_of_headers : ℕ → ℕ → Option ℕ
end_of_headers end n = cond (nat_lt n end) None (Some end)

-- a frame whose content is from `start` to `end`, if n bytes have been read
abbrev pub framed_at : ℕ → ℕ → ℕ → Framed
framed_at start end n = cond (nat_lt n end) Part (Whole start end)

-- what the first n bytes of the frame with this content and of what follows say
abbrev pub framed : List ℕ → ℕ → Framed
framed content n = framed_at (length (head_of (length content))) (length (frame_of content)) n

-- The bytes are frames, one after the other.
abbrev pub AreFrames : List ℕ → Type 0
AreFrames bytes = (contents : List (List ℕ)) × (bytes ≡ flat_map frame_of contents)

-- The contents `new` of the output are its earlier contents `old`, followed by a prefix of a sequence of frames.
abbrev pub WritesFront : Option (List ℕ) → Option (List ℕ) → Type 0
WritesFront old new = (bytes : List ℕ) × AreFrames bytes × HasWritten old new bytes
