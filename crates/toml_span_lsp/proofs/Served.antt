-- Steps of the server, one after the other.
use Rattle.toml_span_lex.proofs.Common.{◌≡◌, ◌≢◌, ℕ, zero, ◌+◌, ◌-◌, ◌<◌, ◌≤◌, Bool, true, false, true≢false, cond, IfNone, List, [], ◌∷◌, ◌++◌, Option, None, Some, same_Some, none-some, length, nat_lt, take, drop, sym, ap, ◌∙◌, refl, subst, inl, inr, ⊎_elim, cases_lt, ◌⊎◌, arith, append-nil, append_assoc, length-append, length-drop, length-take-le, drop_all, nil_from_length, take-append-le, Appends, Appends-nil, Appends-trans, Consumes, IsAtEnd}
use Rattle.std.proofs.KnownBytes.{Consumes-nil, Consumes-trans}
use Rattle.std.proofs.Math.Seq.{take-add}
use Rattle.std.proofs.lemmas.Bool.{cond_above}
use Rattle.json.specs.Token.{null}
use Rattle.toml_span_lines.specs.Run.{HasWritten}
use Rattle.toml_span_lsp.specs.Messages.{IsResponse}
use Rattle.toml_span_lsp.specs.Frames.{AreFrames, IsShort, WritesFront, frame_of, framed, head_of}
use Rattle.toml_span_lsp.specs.Phases.{exit_status}
use Rattle.toml_span_lsp.specs.Served.{AreHeadersOf, BeginsNoFrame, Ends, Finishes, Goes, Handles, IsFramed, Reason, Refuses, Runs, stays, step, Serves, Step, Streams, streams}
use Rattle.toml_span_lsp.specs.declared.frames.FrameFault.{FrameFault}
use Rattle.toml_span_lsp.specs.declared.frames.Framed.{Framed}
use Rattle.toml_span_lsp.specs.declared.frames.Framed.TheVariants.{Whole, TooLong, Part, Fault}
use Rattle.toml_span_lsp.specs.declared.server.Ended.{Ended}
use Rattle.toml_span_lsp.specs.declared.state.Phase.{Phase}
use Rattle.toml_span_lsp.specs.declared.state.Phase.TheVariants as phases
use Rattle.toml_span_lsp.proofs.Written.{both_frames, nothing_written, written_all, written_then}

-- ---- runs

runs_then : {p q r : Phase} {a b c d : List ℕ} → Runs p a b q → Runs q c d r → Runs p (a ++ c) (b ++ d) r
runs_then stays rest = rest
runs_then (step one run) rest = simp append_assoc (step one (runs_then run rest))

one_step : {p q : Phase} {frame out : List ℕ} → Step p frame out q → Runs p frame out q
one_step s = simp append-nil at (step s stays)

step_frames : {p q : Phase} {frame out : List ℕ} → Step p frame out q → AreFrames out
step_frames s = ⊎_elim (λ h. (h.1.0, h.1.1)) (λ h. (h.1.0 ∷ [], h.1.1 ∙ sym (append-nil (frame_of h.1.0)))) s.handled

runs_frames : {p q : Phase} {a b : List ℕ} → Runs p a b q → AreFrames b
runs_frames stays = ([], refl)
runs_frames (step one run) = both_frames _ _ (step_frames one) (runs_frames run)

-- ---- from one message to the next

joined : (held read input held' more taken rest : List ℕ) → held ++ read ≡ input ++ held' → held' ++ more ≡ taken ++ rest
    → held ++ (read ++ more) ≡ (input ++ taken) ++ rest
joined held read input held' more taken rest e f =
    sym (append_assoc held read more) ∙ ap (λ xs. xs ++ more) e ∙ append_assoc input held' more ∙ ap (λ xs. input ++ xs) f
    ∙ sym (append_assoc input taken rest)

pub goes_then : (p q r : Phase) (h i j : List ℕ) (a b c : Streams) → Goes p h a q i b → Goes q i b r j c → Goes p h a r j c
goes_then p q r h i j a b c x y = record {
  read = x.read ++ y.read;
  input = x.input ++ y.input;
  output = x.output ++ y.output;
  runs = runs_then x.runs y.runs;
  consumes = Consumes-trans a.left b.left c.left x.read y.read x.consumes y.consumes;
  parts = joined h x.read x.input i y.read y.input j x.parts y.parts;
  appends = Appends-trans a.written b.written c.written x.output y.output x.appends y.appends;
  goes_on = y.goes_on;
  good = y.good;
}

pub ends_then : (p q : Phase) (h i : List ℕ) (a b c : Streams) (s : ℕ) → Goes p h a q i b → Ends q i b c s → Ends p h a c s
ends_then p q h i a b c s x y = record {
  last = y.last;
  rest = y.rest;
  read = x.read ++ y.read;
  input = x.input ++ y.input;
  output = x.output ++ y.output;
  runs = runs_then x.runs y.runs;
  consumes = Consumes-trans a.left b.left c.left x.read y.read x.consumes y.consumes;
  parts = joined h x.read x.input i y.read y.input y.rest x.parts y.parts;
  written = written_then a.written b.written c.written x.output y.output x.appends y.written;
  whole = λ good. Appends-trans a.written b.written c.written x.output y.output x.appends (y.whole good);
  reason = y.reason;
}

pub serves_then : (result : Option Ended) (p q r : Phase) (h i j : List ℕ) (a b c : Streams) → Goes p h a q i b → Serves result q i b r j c → Serves result p h a r j c
serves_then None p q r h i j a b c x y = goes_then p q r h i j a b c x y
serves_then (Some end) p q r h i j a b c x y = ends_then p q h i a b c end.status x y

-- ---- no message is taken

pub goes_stay : (p : Phase) (held : List ℕ) (at : Streams) → exit_status p ≡ None → at.unwritten ≡ false → Goes p held at p held at
goes_stay p held at alive good = record {
  read = [];
  input = [];
  output = [];
  runs = stays;
  consumes = Consumes-nil at.left;
  parts = append-nil held;
  appends = Appends-nil at.written;
  goes_on = alive;
  good = good;
}

pub goes_start : (q : Phase) (held : List ℕ) (at : Streams) → q ≡ phases.New → held ≡ [] → at.unwritten ≡ false → Goes phases.New [] at q held at
goes_start q held at new empty good =
    let P : Phase → Type 0 = λ r. Goes phases.New [] at r held at in
    let H : List ℕ → Type 0 = λ xs. Goes phases.New [] at phases.New xs at in
    subst P (sym new) (subst H (sym empty) (goes_stay phases.New [] at refl good))

pub consumes_none : (a b : Option (List ℕ)) (bytes : List ℕ) (n : ℕ) → n ≡ 0 → Consumes a b (take n bytes) → Consumes a b []
consumes_none a b bytes n is h = subst (λ k. Consumes a b (take k bytes)) is h

pub goes_read : (p : Phase) (held held' read : List ℕ) (left left' w : Option (List ℕ)) (u u' x : Bool) → Consumes left left' read → held' ≡ held ++ read → exit_status p ≡ None → x ≡ false
    → Goes p held (streams left u w x) p held' (streams left' u' w x)
goes_read p held held' read left left' w u u' x consumes grown alive good = record {
  read = read;
  input = [];
  output = [];
  runs = stays;
  consumes = consumes;
  parts = sym grown;
  appends = Appends-nil w;
  goes_on = alive;
  good = good;
}

pub ends_stay : (p : Phase) (held read : List ℕ) (left left' w : Option (List ℕ)) (u u' x : Bool) (s : ℕ) → Consumes left left' read → Reason p (held ++ read) (streams left' u' w x) s
    → Ends p held (streams left u w x) (streams left' u' w x) s
ends_stay p held read left left' w u u' x s consumes reason = record {
  last = p;
  rest = held ++ read;
  read = read;
  input = [];
  output = [];
  runs = stays;
  consumes = consumes;
  parts = refl;
  written = nothing_written w;
  whole = λ _. Appends-nil w;
  reason = reason;
}

-- an allocation fails
pub ends_memory : (p : Phase) (held : List ℕ) (left w : Option (List ℕ)) (u x : Bool) (s : ℕ) → s ≡ 4 → Ends p held (streams left u w x) (streams left u w x) s
ends_memory p held left w u x s is = ends_stay p held [] left left w u u x s (Consumes-nil left) (inr (inr (inr (inr is))))

pub no_frame_at_end : (held : List ℕ) (left : Option (List ℕ)) → IsAtEnd left → BeginsNoFrame held (Some []) → BeginsNoFrame (held ++ []) left
no_frame_at_end held None e h = tt
no_frame_at_end held (Some xs) e h = λ content rest short is.
    h content rest short (ap (λ ys. held ++ ys) (sym e) ∙ sym (append_assoc held [] xs) ∙ is)

pub no_frame_after : (held read : List ℕ) (left : Option (List ℕ)) → ((more : List ℕ) → BeginsNoFrame held (Some more)) → BeginsNoFrame (held ++ read) left
no_frame_after held read None h = tt
no_frame_after held read (Some xs) h = λ content rest short is.
    h (read ++ xs) content rest short (sym (append_assoc held read xs) ∙ is)

-- ---- what `frame` says, if it finds no whole frame

-- what `frame` promises of frames with only the header `Content-Length`
abbrev pub Finds : List ℕ → Framed → Type 0
Finds bytes found = (content more rest : List ℕ) → IsShort content → bytes ++ more ≡ frame_of content ++ rest → found ≡ framed content (length bytes)

pub no_frame_part : (bytes view : List ℕ) (found : Framed) → view ≡ bytes → Finds view found → found ≡ Part → BeginsNoFrame bytes (Some [])
no_frame_part bytes view found same finds is = λ content rest short begins.
    let h = subst (λ xs. Finds xs found) same finds in
    let long : length (frame_of content) ≤ length bytes = omega (arith, ap length begins, length-append bytes [], length-append (frame_of content) rest) in
    let start = length (head_of (length content)) in
    let end = length (frame_of content) in
    let whole : framed content (length bytes) ≡ Whole start end = sym (cond_above (length bytes) end Part (Whole start end) (Whole start end) long refl) in
    let wrong : Part ≡ Whole start end = sym is ∙ h content [] rest short begins ∙ whole in
    absurd cc

either_part : (b : Bool) (s e : ℕ) (found : Framed) → found ≡ cond b Part (Whole s e) → found ≢ Part → ((s e : ℕ) → found ≢ Whole s e) → ⊥
either_part true s e found is part whole = part is
either_part false s e found is part whole = whole s e is

no_frame_other : (bytes view more : List ℕ) (found : Framed) → view ≡ bytes → Finds view found → found ≢ Part → ((s e : ℕ) → found ≢ Whole s e) → BeginsNoFrame bytes (Some more)
no_frame_other bytes view more found same finds part whole = λ content rest short begins.
    let is = finds content more rest short (ap (λ xs. xs ++ more) same ∙ begins) in
    either_part (nat_lt (length view) (length (frame_of content))) (length (head_of (length content))) (length (frame_of content)) found is part whole

pub no_frame_long : (bytes view more : List ℕ) (found : Framed) (end : ℕ) → view ≡ bytes → Finds view found → found ≡ TooLong end → BeginsNoFrame bytes (Some more)
no_frame_long bytes view more found end same finds is =
    no_frame_other bytes view more found same finds (λ e. let wrong : TooLong end ≡ Part = sym is ∙ e in absurd cc) (λ s t e. let wrong : TooLong end ≡ Whole s t = sym is ∙ e in absurd cc)

pub no_frame_fault : (bytes view more : List ℕ) (found : Framed) (fault : FrameFault) → view ≡ bytes → Finds view found → found ≡ Fault fault → BeginsNoFrame bytes (Some more)
no_frame_fault bytes view more found fault same finds is =
    no_frame_other bytes view more found same finds (λ e. let wrong : Fault fault ≡ Part = sym is ∙ e in absurd cc) (λ s t e. let wrong : Fault fault ≡ Whole s t = sym is ∙ e in absurd cc)

pub framed_as : (bytes view : List ℕ) (found is : Framed) → view ≡ bytes → found ≡ is → IsFramed view found → IsFramed bytes is
framed_as bytes view found is same e framed = subst (λ xs. IsFramed xs is) same (subst (IsFramed view) e framed)

-- ---- a message is taken

pub goes_step : (p q : Phase) (frame out held held' read : List ℕ) (a b : Streams) → Appends a.written b.written out → Step p frame out q → held ++ read ≡ frame ++ held'
    → Consumes a.left b.left read → exit_status q ≡ None → b.unwritten ≡ false → Goes p held a q held' b
goes_step p q frame out held held' read a b appends s parts consumes alive good = record {
  read = read;
  input = frame;
  output = out;
  runs = one_step s;
  consumes = consumes;
  parts = parts;
  appends = appends;
  goes_on = alive;
  good = good;
}

pub ends_step : (p q : Phase) (frame out held rest read : List ℕ) (a b : Streams) (s : ℕ) → Step p frame out q → held ++ read ≡ frame ++ rest → Consumes a.left b.left read
    → HasWritten a.written b.written out → (b.unwritten ≡ false → Appends a.written b.written out) → Reason q rest b s → Ends p held a b s
ends_step p q frame out held rest read a b s taken parts consumes written whole reason = record {
  last = q;
  rest = rest;
  read = read;
  input = frame;
  output = out;
  runs = one_step taken;
  consumes = consumes;
  parts = parts;
  written = written;
  whole = whole;
  reason = reason;
}

-- the answer is not written, or an allocation fails then
pub ends_finish : (end : Ended) (p q : Phase) (frame out held rest read : List ℕ) (a b : Streams) → Finishes (Some end) a.written b.written b.unwritten out → Step p frame out q
    → held ++ read ≡ frame ++ rest → Consumes a.left b.left read → Ends p held a b end.status
ends_finish end p q frame out held rest read a b (inl (is, failed, written)) s parts consumes =
    ends_step p q frame out held rest read a b end.status s parts consumes written (λ good. absurd (true≢false (sym failed ∙ good))) (inr (inr (inr (inl (is, inr failed)))))
ends_finish end p q frame out held rest read a b (inr (is, good, appends)) s parts consumes =
    ends_step p q frame out held rest read a b end.status s parts consumes (written_all a.written b.written out appends) (λ _. appends) (inr (inr (inr (inr is))))

-- the server ends then, or goes on
pub serves_finish : (result : Option Ended) (p q : Phase) (frame out held held' rest read : List ℕ) (a b : Streams) → Finishes result a.written b.written b.unwritten out → Step p frame out q
    → held ++ read ≡ frame ++ rest → Consumes a.left b.left read → exit_status q ≡ None → IfNone result (held' ≡ rest) → Serves result p held a q held' b
serves_finish None p q frame out held held' rest read a b (good, appends) s parts consumes alive same =
    goes_step p q frame out held held' read a b appends s (parts ∙ ap (λ xs. frame ++ xs) (sym same)) consumes alive good
serves_finish (Some end) p q frame out held held' rest read a b finishes s parts consumes alive same =
    ends_finish end p q frame out held rest read a b finishes s parts consumes

-- the message was `exit`
pub ends_exit : (p q : Phase) (frame out held rest read : List ℕ) (a b : Streams) (s : ℕ) → Appends a.written b.written out → Step p frame out q
    → held ++ read ≡ frame ++ rest → Consumes a.left b.left read → exit_status q ≡ Some s → Ends p held a b s
ends_exit p q frame out held rest read a b s appends taken parts consumes is =
    ends_step p q frame out held rest read a b s taken parts consumes (written_all a.written b.written out appends) (λ _. appends) (inl is)

-- the frame that `frame` finds, and its answer
pub take_step : (p q : Phase) (bytes view out view' : List ℕ) (start end : ℕ) → IsFramed bytes (Whole start end) → exit_status p ≡ None → view ≡ bytes → view' ≡ out
    → Handles (take (end - start) (drop start view)) p out q → Step p (take end bytes) view' q
take_step p q bytes view out view' start end (low, within, short, heads) alive same same' handles =
    let content = take (end - start) (drop start bytes) in
    let long : length content ≡ end - start = length-take-le (end - start) (drop start bytes) (omega (arith, length-drop start bytes)) in
    let whole : end ≡ start + (end - start) = omega arith in
    let H : List ℕ → Type 0 = λ xs. Handles (take (end - start) (drop start xs)) p out q in
    let O : List ℕ → Type 0 = λ xs. Handles content p xs q in
    record {
      goes_on = alive;
      head = take start bytes;
      content = content;
      is = ap (λ n. take n bytes) whole ∙ take-add start (end - start) bytes;
      headers = subst (λ n. AreHeadersOf n (take start bytes)) (sym long) heads;
      handled = inl (omega arith, subst O (sym same') (subst H same handles));
    }

-- the frame that is too long, of which `got` was read last
pub long_step : (p : Phase) (bytes got out view : List ℕ) (end : ℕ) → IsFramed bytes (TooLong end) → exit_status p ≡ None → length got ≡ end - length bytes → view ≡ out
    → Refuses out → Step p (take end (bytes ++ got)) view p
long_step p bytes got out view end (start, n, within, long, is, heads) alive count same refuses =
    let all = bytes ++ got in
    let content = take n (drop start all) in
    let size : length content ≡ n = length-take-le n (drop start all) (omega (arith, length-drop start all, length-append bytes got)) in
    let head : take start all ≡ take start bytes = take-append-le start bytes got within in
    record {
      goes_on = alive;
      head = take start bytes;
      content = content;
      is = ap (λ k. take k all) is ∙ take-add start n all ∙ ap (λ xs. xs ++ content) head;
      headers = subst (λ k. AreHeadersOf k (take start bytes)) (sym size) heads;
      handled = inr (omega arith, subst Refuses (sym same) refuses, refl);
    }

pub refuses_from : (new old view content : List ℕ) → new ≡ old ++ frame_of view → old ≡ [] → view ≡ content → IsResponse null content → Refuses new
refuses_from new old view content is empty same response =
    (content, is ∙ ap (λ xs. xs ++ frame_of view) empty ∙ ap frame_of same, response)

pub drop_read : (bytes got : List ℕ) (end : ℕ) → length got ≡ end - length bytes → drop end (bytes ++ got) ≡ drop end bytes
drop_read bytes got end count = ⊎_elim (λ below. drop_all end (bytes ++ got) (omega (arith, length-append bytes got)) ∙ sym (drop_all end bytes (omega arith)))
    (λ above. ap (λ xs. drop end (bytes ++ xs)) (nil_from_length got (omega arith)) ∙ ap (drop end) (append-nil bytes)) (cases_lt (length bytes) end)

-- ---- the end

status_bound : (p : Phase) (held : List ℕ) (end : Streams) (s : ℕ) → Reason p held end s → s ≤ 4
status_bound phases.New held end s (inl is) = absurd (none-some _ is)
status_bound phases.Running held end s (inl is) = absurd (none-some _ is)
status_bound phases.Shut held end s (inl is) = absurd (none-some _ is)
status_bound (phases.Ended true) held end s (inl is) = let e : 0 ≡ s = same_Some _ _ is in omega arith
status_bound (phases.Ended false) held end s (inl is) = let e : 1 ≡ s = same_Some _ _ is in omega arith
status_bound p held end s (inr (inl is)) = omega (arith, is.0)
status_bound p held end s (inr (inr (inl is))) = omega (arith, is.0)
status_bound p held end s (inr (inr (inr (inl is)))) = omega (arith, is.0)
status_bound p held end s (inr (inr (inr (inr is)))) = omega (arith, is)

pub ends_status : (p : Phase) (held : List ℕ) (a b : Streams) (s : ℕ) → Ends p held a b s → s ≤ 4
ends_status p held a b s e = status_bound e.last e.rest b s e.reason

pub ends_front : (p : Phase) (held : List ℕ) (a b : Streams) (s : ℕ) → Ends p held a b s → WritesFront a.written b.written
ends_front p held a b s e = (e.output, runs_frames e.runs, e.written)
