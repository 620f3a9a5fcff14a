use Rattle.toml_span_lex.proofs.Common.{encode_utf8, arith, ◌<◌, ◌+◌, ◌∙◌, ap, sym, ◌++◌, ◌∷◌, [], inl, inr, append-nil}
use Rattle.toml_span_lex.proofs.PieceLemmas.{kept_own, change_at, change_more, escape_shorter, dropped_shorter, line_feed, crlf_shorter, crlf_return}
use Rattle.toml_span_lex.proofs.strings.with_piece.Goals as goal

pub returns-in-Plain-clause-ok : goal.returns-in-Plain-clause-ok
returns-in-Plain-clause-ok c = λ q m v p k. elim c.in-Plain.is [ inl e ↦ rw e (c.same.ensures.ok q v k) | inr e ↦ rw e (c.same.ensures.ok q v k) ]

pub returns-in-Plain-clause-memory : goal.returns-in-Plain-clause-memory
returns-in-Plain-clause-memory c = λ q m v p k. change_more q c.args.text.now c.args.from c.args.at c.args.next _ c.requires.on (c.same.ensures.memory q v k)

pub returns-in-LineEnd-clause-ok : goal.returns-in-LineEnd-clause-ok
returns-in-LineEnd-clause-ok c = λ q m v p k.
    let h = rw c.in-LineEnd.is at p in
    rw (c.in-LineEnd.is, line_feed c.args.text.now c.args.at c.args.next h.1 c.if-next-at.true) (c.same-in-LineEnd.ensures.ok q v k)

pub returns-in-LineEnd-clause-memory : goal.returns-in-LineEnd-clause-memory
returns-in-LineEnd-clause-memory c = λ q m v p k. change_more q c.args.text.now c.args.from c.args.at c.args.next _ c.requires.on (c.same-in-LineEnd.ensures.memory q v k)

pub returns-in_ok-push-in-LineEnd-2-clause-ok : goal.returns-in_ok-push-in-LineEnd-2-clause-ok
unfolding lib.Utf8.encode
returns-in_ok-push-in-LineEnd-2-clause-ok c = λ q m v p k.
    let h = rw c.in-LineEnd-2.is at p in
    let change = change_at q c.args.text.now c.args.from c.args.at c.args.next c.requires.forward (omega (arith, crlf_shorter _ _ _ h.1 c.if-next-at.false)) (inr (crlf_return _ _ _ h.1 c.if-next-at.false)) in
    rw c.in-LineEnd-2.is (kept_own q c.args.text.now c.args.from c.args.at c.args.next v (10 ∷ []) c.args.kept c.push.new.self c.requires.forward k change (crlf_shorter _ _ _ h.1 c.if-next-at.false) (c.in_ok-push-in-LineEnd-2.ensures.bytes ∙ ap (λ b. b ++ 10 ∷ []) (c.in_ok-s-in-LineEnd-2.ensures q v k)))

pub returns-in_ok-push-in-Escape-clause-ok : goal.returns-in_ok-push-in-Escape-clause-ok
returns-in_ok-push-in-Escape-clause-ok c = λ q m v p k.
    let h = rw c.in-Escape.is at p in
    let change = change_at q c.args.text.now c.args.from c.args.at c.args.next c.requires.forward (omega (arith, escape_shorter _ _ _ _ h.2)) (inl (h.0, h.1)) in
    rw c.in-Escape.is (kept_own q c.args.text.now c.args.from c.args.at c.args.next v _ c.args.kept c.push-in-Escape.new.self c.requires.forward k change (escape_shorter _ _ _ _ h.2) (c.in_ok-push-in-Escape.ensures.bytes ∙ ap (λ b. b ++ encode_utf8 c.in-Escape.c) (c.in_ok-s-in-Escape.ensures q v k)))

pub returns-in_ok-owned-in-Dropped-clause-ok : goal.returns-in_ok-owned-in-Dropped-clause-ok
returns-in_ok-owned-in-Dropped-clause-ok c = λ q m v p k.
    let h = rw c.in-Dropped.is at p in
    let on : 0 + c.args.at < c.args.next = omega (arith, dropped_shorter c.args.text.now c.args.at c.args.next h.3) in
    let change = change_at q c.args.text.now c.args.from c.args.at c.args.next c.requires.forward (omega arith) (inl (h.0, h.2)) in
    rw c.in-Dropped.is (kept_own q c.args.text.now c.args.from c.args.at c.args.next v [] c.args.kept c.in_ok-owned-in-Dropped.field-0 c.requires.forward k change on (c.in_ok-owned-in-Dropped.ensures q v k ∙ sym (append-nil v)))
