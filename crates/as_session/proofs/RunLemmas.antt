-- What a session is after whole runs: the bytes that it used are the messages that came out and what is pending.
use Rattle.std.proofs.Common.{◌≡◌, ℕ, zero, suc, ◌+◌, ◌-◌, ◌<◌, ◌≤◌, true, false, List, [], ◌∷◌, ◌++◌, length, take, drop, refl, sym, ap, subst, ◌∙◌, arith, append_assoc, inl, inr}
use Rattle.std.proofs.Math.Seq.{take-append-add, take-length}
use Rattle.std.specs.List.{AllByRecursion}
use Rattle.std.proofs.lemmas.Bool.{cases_lt}
use Rattle.std.proofs.lemmas.Grind.{flat_map-append}
use Rattle.std.proofs.lemmas.List.{length-append, length-drop, length-take-le, take-append-drop, append-nil}
use Rattle.scte104_codec.specs.declared.framing.Frame.{Frame}
use Rattle.scte104_codec.specs.declared.framing.Frame.TheVariants.{NeedMore, Whole, BadSize}
use Rattle.scte104_codec.specs.Framing.{size_in, frame_of}
use Rattle.scte104_codec.proofs.FrameLemmas.{is_whole, size_goes_on}
use Rattle.as_session.specs.Pending.{is_partial, needs_more}
use Rattle.as_session.specs.Feeding.{State, opened, shut, fed_by, feed_of}
use Rattle.as_session.specs.Messages.{IsMessage, NoneFirst, joined, Split, messages_of}
use Rattle.as_session.specs.Runs.{messages_in, taken_by, take_within, take_piece, take_pieces, given_in, used_in}
use Rattle.as_session.specs.Laws.{left_by}
use Rattle.as_session.proofs.FrameLemmas.{frame_bad, partial_none, partial_below, bad_parts}
use Rattle.as_session.proofs.SplitLemmas.{front_of, only_split}

-- these bytes begin with a bad size, and are behind these messages
pub record Broken (stream : List ℕ) (ms : List (List ℕ)) : Type 0 where
  pub rest : List ℕ
  pub parts : stream ≡ joined ms ++ rest
  pub each : AllByRecursion IsMessage ms
  pub bad : frame_of rest ≡ BadSize

-- the pending bytes are behind these messages
pub record Pends (stream : List ℕ) (ms : List (List ℕ)) (pending : List ℕ) : Type 0 where
  pub parts : stream ≡ joined ms ++ pending
  pub each : AllByRecursion IsMessage ms
  pub partial : is_partial pending ≡ true

-- a session that gave these messages for this stream
abbrev pub Reached : List ℕ → State → List (List ℕ) → Type 0
Reached stream (opened pending) ms = Pends stream ms pending
Reached stream shut ms = Broken stream ms

-- ---- it gave the messages of the stream

partial_first : (f : Frame) → needs_more f ≡ true → NoneFirst f
partial_first (NeedMore n) h = tt
partial_first (Whole size) h = absurd cc
partial_first BadSize h = tt

pub reached_messages : (stream : List ℕ) (s : State) (ms : List (List ℕ)) → Reached stream s ms → (messages_of stream).messages ≡ ms
reached_messages stream (opened pending) ms r =
    ap (λ (split : Split). split.messages) (only_split stream (record { messages = ms; rest = pending }) (record { parts = r.parts; each = r.each; none_first = partial_first (frame_of pending) r.partial }))
reached_messages stream shut ms r =
    ap (λ (split : Split). split.messages) (only_split stream (record { messages = ms; rest = r.rest }) (record { parts = r.parts; each = r.each; none_first = subst NoneFirst (sym r.bad) tt }))

partial_left : (rest : List ℕ) (f : Frame) → needs_more f ≡ true → opened rest ≡ left_by rest f
partial_left rest (NeedMore n) h = refl
partial_left rest (Whole size) h = refl
partial_left rest BadSize h = absurd cc

-- what is left of the stream says what the session is
pub reached_state : (stream : List ℕ) (s : State) (ms : List (List ℕ)) → Reached stream s ms → s ≡ left_by (messages_of stream).rest (frame_of (messages_of stream).rest)
reached_state stream (opened pending) ms r =
    let rest = ap (λ (split : Split). split.rest) (only_split stream (record { messages = ms; rest = pending }) (record { parts = r.parts; each = r.each; none_first = partial_first (frame_of pending) r.partial })) in
    subst (λ (xs : List ℕ). opened pending ≡ left_by xs (frame_of xs)) (sym rest) (partial_left pending (frame_of pending) r.partial)
reached_state stream shut ms r =
    let rest = ap (λ (split : Split). split.rest) (only_split stream (record { messages = ms; rest = r.rest }) (record { parts = r.parts; each = r.each; none_first = subst NoneFirst (sym r.bad) tt })) in
    subst (λ (xs : List ℕ). shut ≡ left_by xs (frame_of xs)) (sym rest) (sym (ap (left_by r.rest) r.bad))

-- ---- one call

all_snoc : (ms : List (List ℕ)) (m : List ℕ) → AllByRecursion IsMessage ms → IsMessage m → AllByRecursion IsMessage (ms ++ m ∷ [])
all_snoc [] m all is = (is, tt)
all_snoc (n ∷ ms) m all is = (all.0, all_snoc ms m all.1 is)

module _ (stream pending piece : List ℕ) (ms : List (List ℕ)) (r : Pends stream ms pending) where
  stream_with : (more : List ℕ) → stream ++ more ≡ joined ms ++ (pending ++ more)
  stream_with more = ap (λ (xs : List ℕ). xs ++ more) r.parts ∙ append_assoc (joined ms) pending more

  -- a whole message is more than what was pending
  pub below_whole : (size : ℕ) → frame_of (pending ++ piece) ≡ Whole size → length pending < size
  below_whole size e =
      let front = front_of (pending ++ piece) size e in
      let least = front.least in
      elim (cases_lt (length pending) 4) [
        | inl lt ↦ omega arith
        | inr four ↦
            let w = is_whole (pending ++ piece) size e in
            partial_below pending size r.partial four (sym (size_goes_on pending piece four) ∙ w.sized)
      ]

  pub front_is : (size : ℕ) → frame_of (pending ++ piece) ≡ Whole size → take size (pending ++ piece) ≡ pending ++ take (size - length pending) piece
  front_is size e =
      let below = below_whole size e in
      let split : size ≡ length pending + (size - length pending) = omega arith in
      ap (λ (n : ℕ). take n (pending ++ piece)) split ∙ take-append-add pending piece (size - length pending)

  -- a bad size is read at the fourth byte
  below_bad : frame_of (pending ++ piece) ≡ BadSize → length pending < 4
  below_bad e =
      elim (cases_lt (length pending) 4) [
        | inl lt ↦ lt
        | inr four ↦
            let b = bad_parts (pending ++ piece) e in
            let there : frame_of pending ≡ BadSize = frame_bad pending four (sym (size_goes_on pending piece four) ∙ b.none) in
            let clash : false ≡ true = ap needs_more (sym there) ∙ r.partial in
            absurd cc
      ]

  bad_front : frame_of (pending ++ piece) ≡ BadSize → frame_of (pending ++ take (4 - length pending) piece) ≡ BadSize
  bad_front e =
      let b = bad_parts (pending ++ piece) e in
      let below = below_bad e in
      let n = 4 - length pending in
      let whole : (pending ++ take n piece) ++ drop n piece ≡ pending ++ piece = append_assoc pending (take n piece) (drop n piece) ∙ ap (λ (xs : List ℕ). pending ++ xs) (take-append-drop n piece) in
      let long = length-append pending (take n piece) in
      let all = length-append pending piece in
      let four : 4 ≤ length (pending ++ piece) = b.four in
      let enough : n ≤ length piece = omega arith in
      let front = length-take-le n piece enough in
      frame_bad (pending ++ take n piece) (omega arith) (sym (size_goes_on (pending ++ take n piece) (drop n piece) (omega arith)) ∙ ap size_in whole ∙ b.none)

  fed_reaches : (f : Frame) → frame_of (pending ++ piece) ≡ f →
      Reached (stream ++ take (fed_by pending piece f).used piece) (fed_by pending piece f).after (ms ++ messages_in (fed_by pending piece f).gives)
  fed_reaches (NeedMore n) e =
      subst (λ (xs : List (List ℕ)). Pends (stream ++ take (length piece) piece) xs (pending ++ piece)) (sym (append-nil ms))
      (record { parts = ap (λ (xs : List ℕ). stream ++ xs) (take-length piece) ∙ stream_with piece; each = r.each; partial = ap needs_more e })
  fed_reaches (Whole size) e =
      let front = front_of (pending ++ piece) size e in
      let m = take size (pending ++ piece) in
      let at-end : joined (ms ++ m ∷ []) ≡ joined ms ++ m = flat_map-append (λ (part : List ℕ). part) ms (m ∷ []) ∙ ap (λ (xs : List ℕ). joined ms ++ xs) (append-nil m) in
      let parts : stream ++ take (size - length pending) piece ≡ joined (ms ++ m ∷ []) ++ [] =
      stream_with (take (size - length pending) piece) ∙ ap (λ (xs : List ℕ). joined ms ++ xs) (sym (front_is size e)) ∙ sym at-end ∙ sym (append-nil (joined (ms ++ m ∷ []))) in
      record { parts = parts; each = all_snoc ms m r.each front.is_message; partial = partial_none [] refl }
  fed_reaches BadSize e =
      subst (λ (xs : List (List ℕ)). Broken (stream ++ take (4 - length pending) piece) xs) (sym (append-nil ms))
      (record { rest = pending ++ take (4 - length pending) piece; parts = stream_with (take (4 - length pending) piece); each = r.each; bad = bad_front e })

pub feed_reaches : (stream piece : List ℕ) (s : State) (ms : List (List ℕ)) → Reached stream s ms → Reached (stream ++ take (feed_of s piece).used piece) (feed_of s piece).after (ms ++ messages_in (feed_of s piece).gives)
feed_reaches stream piece (opened pending) ms r = fed_reaches stream pending piece ms r (frame_of (pending ++ piece)) refl
feed_reaches stream piece shut ms r =
    subst (λ (xs : List (List ℕ)). Broken (stream ++ []) xs) (sym (append-nil ms)) (subst (λ (xs : List ℕ). Broken xs ms) (sym (append-nil stream)) r)

-- ---- calls with any pieces

pub record Arrives (stream : List ℕ) (ms : List (List ℕ)) : Type 0 where
  pub at : State
  pub reached : Reached stream at ms

pub calls_reach : (pieces : List (List ℕ)) (stream : List ℕ) (s : State) (ms : List (List ℕ)) → Reached stream s ms → Arrives (stream ++ used_in s pieces) (ms ++ given_in s pieces)
calls_reach [] stream s ms r =
    record { at = s; reached = subst (λ (xs : List ℕ). Reached xs s (ms ++ [])) (sym (append-nil stream)) (subst (λ (xs : List (List ℕ)). Reached stream s xs) (sym (append-nil ms)) r) }
calls_reach (piece ∷ pieces) stream s ms r =
    let fed = feed_of s piece in
    let later = calls_reach pieces (stream ++ take fed.used piece) fed.after (ms ++ messages_in fed.gives) (feed_reaches stream piece s ms r) in
    subst (λ (xs : List ℕ). Arrives xs (ms ++ given_in s (piece ∷ pieces))) (append_assoc stream (take fed.used piece) (used_in fed.after pieces))
    (subst (λ (xs : List (List ℕ)). Arrives ((stream ++ take fed.used piece) ++ used_in fed.after pieces) xs) (append_assoc ms (messages_in fed.gives) (given_in fed.after pieces)) later)

pub begins : Reached [] (opened []) []
begins = record { parts = refl; each = tt; partial = partial_none [] refl }

-- ---- a piece that is fed to its end

broken_on : (stream more : List ℕ) (ms : List (List ℕ)) → Broken stream ms → Broken (stream ++ more) ms
broken_on stream more ms b =
    let p = bad_parts b.rest b.bad in
    let long = length-append b.rest more in
    let four = p.four in
    record {
      rest = b.rest ++ more;
      parts = ap (λ (xs : List ℕ). xs ++ more) b.parts ∙ append_assoc (joined ms) b.rest more;
      each = b.each;
      bad = frame_bad (b.rest ++ more) (omega arith) (size_goes_on b.rest more p.four ∙ p.none);
    }

module _ (n : ℕ) (fewer : (stream piece : List ℕ) (s : State) (ms : List (List ℕ)) → length piece < n → Reached stream s ms → Reached (stream ++ piece) (take_within n s piece).after (ms ++ (take_within n s piece).messages))
    (stream pending piece : List ℕ) (ms : List (List ℕ)) (lt : length piece < suc n) (r : Pends stream ms pending) where
  taken_reaches : (f : Frame) → frame_of (pending ++ piece) ≡ f →
      let fed = fed_by pending piece f in
      Reached (stream ++ piece) (taken_by (take_within n) piece fed fed.gives).after (ms ++ (taken_by (take_within n) piece fed fed.gives).messages)
  taken_reaches (NeedMore k) e =
      subst (λ (xs : List ℕ). Reached (stream ++ xs) (opened (pending ++ piece)) (ms ++ [])) (take-length piece) (fed_reaches stream pending piece ms r (NeedMore k) e)
  taken_reaches (Whole size) e =
      let used = size - length pending in
      let m = take size (pending ++ piece) in
      let below = below_whole stream pending piece ms r size e in
      let front = front_of (pending ++ piece) size e in
      let fits = front.fits in
      let all = length-append pending piece in
      let left = length-drop used piece in
      let later = fewer (stream ++ take used piece) (drop used piece) (opened []) (ms ++ m ∷ []) (omega arith) (fed_reaches stream pending piece ms r (Whole size) e) in
      let t = take_within n (opened []) (drop used piece) in
      let joined-stream : (stream ++ take used piece) ++ drop used piece ≡ stream ++ piece = append_assoc stream (take used piece) (drop used piece) ∙ ap (λ (xs : List ℕ). stream ++ xs) (take-append-drop used piece) in
      subst (λ (xs : List ℕ). Reached xs t.after (ms ++ m ∷ t.messages)) joined-stream
      (subst (λ (xs : List (List ℕ)). Reached ((stream ++ take used piece) ++ drop used piece) t.after xs) (append_assoc ms (m ∷ []) t.messages) later)
  taken_reaches BadSize e =
      let used = 4 - length pending in
      let here = broken_on (stream ++ take used piece) (drop used piece) (ms ++ []) (fed_reaches stream pending piece ms r BadSize e) in
      let joined-stream : (stream ++ take used piece) ++ drop used piece ≡ stream ++ piece = append_assoc stream (take used piece) (drop used piece) ∙ ap (λ (xs : List ℕ). stream ++ xs) (take-append-drop used piece) in
      subst (λ (xs : List ℕ). Broken xs (ms ++ [])) joined-stream here

pub within_reaches : (n : ℕ) (stream piece : List ℕ) (s : State) (ms : List (List ℕ)) → length piece < n → Reached stream s ms → Reached (stream ++ piece) (take_within n s piece).after (ms ++ (take_within n s piece).messages)
unfolding take_within
within_reaches zero stream piece s ms lt r = absurd (omega arith)
within_reaches (suc n) stream piece (opened pending) ms lt r = taken_reaches n (within_reaches n) stream pending piece ms lt r (frame_of (pending ++ piece)) refl
within_reaches (suc n) stream piece shut ms lt r = subst (λ (xs : List (List ℕ)). Broken (stream ++ piece) xs) (sym (append-nil ms)) (broken_on stream piece ms r)

pub pieces_reach : (pieces : List (List ℕ)) (stream : List ℕ) (s : State) (ms : List (List ℕ)) → Reached stream s ms → Reached (stream ++ joined pieces) (take_pieces s pieces).after (ms ++ (take_pieces s pieces).messages)
pieces_reach [] stream s ms r =
    subst (λ (xs : List ℕ). Reached xs s (ms ++ [])) (sym (append-nil stream)) (subst (λ (xs : List (List ℕ)). Reached stream s xs) (sym (append-nil ms)) r)
pieces_reach (piece ∷ pieces) stream s ms r =
    let t = take_piece s piece in
    let first = within_reaches (suc (length piece)) stream piece s ms (omega arith) r in
    let later = pieces_reach pieces (stream ++ piece) t.after (ms ++ t.messages) first in
    let last = (take_pieces t.after pieces).after in
    subst (λ (xs : List ℕ). Reached xs last (ms ++ (take_pieces s (piece ∷ pieces)).messages)) (append_assoc stream piece (joined pieces))
    (subst (λ (xs : List (List ℕ)). Reached ((stream ++ piece) ++ joined pieces) last xs) (append_assoc ms t.messages (take_pieces t.after pieces).messages) later)
