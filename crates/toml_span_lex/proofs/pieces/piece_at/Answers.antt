use Rattle.toml_span_lex.proofs.Common.{arith, refl, rules, inl, inr, ◌≡◌, ◌<◌, false, get_or, length}
use Rattle.toml_span_lex.specs.Bytes.{is_printed}
use Rattle.toml_span_lex.proofs.Runs.{after_ascii, neither_line, not_plain, unprinted_ascii}
use Rattle.toml_span_lex.proofs.pieces.piece_at.Goals as goal

pub returns-then-bytes-at-clause-boundary : goal.returns-then-bytes-at-clause-boundary
returns-then-bytes-at-clause-boundary c = after_ascii c.args.text.now c.args.at _ refl c.utf8.text (omega arith) (search rules)

pub returns-in-None-clause-piece : goal.returns-in-None-clause-piece
returns-in-None-clause-piece c =
    let text = c.args.text.now in
    let at = c.args.at in
    let e : c.plain_end-end.result ≡ at = omega arith in
    let l : at < length text = omega arith in
    let stops = rw e at c.plain_end-end.ensures.run in
    let unprinted : is_printed (get_or text at 0) ≡ false = not_plain c.args.quote (get_or text at 0) (stops.stops l) (search rules) (search rules) in
    let same = neither_line text at c.char_at-c.result.0 _ c.in-None.ensures.line_end (unprinted_ascii _ unprinted) l c.char_at-c.ensures.char in
    inr (inr (inl (_, refl, rw same unprinted, c.in-None.ensures.line_end, c.char_at-c.ensures.char)))
