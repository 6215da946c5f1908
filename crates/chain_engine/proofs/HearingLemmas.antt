-- Messages of pieces, judged and answered one after another.
use Rattle.std.proofs.Common.{◌≡◌, ℕ, suc, ◌<◌, Bool, true, false, not, List, [], ◌∷◌, ◌++◌, length, take, drop, Option, None, Some, refl, sym, ap, subst, ◌∙◌, arith, append_assoc, length-append, if◌then◌else◌}
use Rattle.std.proofs.lemmas.List.{append-nil, take-append-drop}
use Rattle.std.proofs.Math.Seq.{take-length}
use Rattle.scte104_codec.specs.declared.reply.Reply.{Reply}
use Rattle.scte104_codec.specs.Replies.{reply_bytes}
use Rattle.scte104_codec.specs.Reading.{MessageReading, message_of}
use Rattle.scte104_codec.specs.declared.framing.Frame.{Frame}
use Rattle.scte104_codec.specs.declared.framing.Frame.TheVariants.{NeedMore, Whole, BadSize}
use Rattle.scte104_codec.specs.Framing.{frame_of}
use Rattle.as_session.specs.Pending.{is_partial}
use Rattle.as_session.specs.Feeding.{State, opened, shut, nothing, message, tells_shut, Fed, feed_of, fed_by}
use Rattle.as_session.specs.Messages.{messages_of}
use Rattle.as_session.specs.Runs.{messages_in, take_within}
use Rattle.as_session.specs.Laws.{left_by}
use Rattle.as_session.proofs.SplitLemmas.{the_split}
use Rattle.as_session.proofs.RunLemmas.{Reached, Pends, reached_messages, reached_state, feed_reaches, within_reaches}
use Rattle.chain_engine.specs.Automation.{Answer, answer_of}
use Rattle.chain_engine.specs.Judging.{JudgesAll}
use Rattle.chain_engine.specs.Hearing.{answers_to, Replied, HearsPiece}
use Rattle.chain_engine.specs.declared.hearing.SessionEnd.{SessionEnd}
use Rattle.chain_engine.specs.declared.hearing.SessionEnd.TheVariants as end

-- ---- the answers that replies come to

pub answers_more : (lost : Bool) (rs rs' : List Reply) → (lost ≡ true → 0 < length rs') → answers_to lost (rs ++ rs') ≡ answers_to false rs ++ answers_to lost rs'
answers_more lost [] rs' some = refl
answers_more true (r ∷ []) [] some = absurd (omega (arith, some refl))
answers_more false (r ∷ []) [] some = refl
answers_more lost (r ∷ []) (s ∷ rs') some = refl
answers_more lost (r ∷ s ∷ rs) rs' some = ap (λ l. answer_of (reply_bytes r) true ∷ l) (answers_more lost (s ∷ rs) rs' some)

module _ {J : Type 0} (judges : J → MessageReading → Reply → J → Type 0) where
  judged_more : (i j k : J) (ms ms' : List (List ℕ)) (rs rs' : List Reply) → JudgesAll judges i ms rs j → JudgesAll judges j ms' rs' k → JudgesAll judges i (ms ++ ms') (rs ++ rs') k
  judged_more i j k [] ms' [] rs' h t = subst (λ x. JudgesAll judges x ms' rs' k) h t
  judged_more i j k [] ms' (r ∷ rs) rs' h t = absurd h
  judged_more i j k (m ∷ ms) ms' [] rs' h t = absurd h
  judged_more i j k (m ∷ ms) ms' (r ∷ rs) rs' (x, one, h) t = (x, one, judged_more x j k ms ms' rs rs' h t)

  pub judged_count : (i j : J) (ms : List (List ℕ)) (rs : List Reply) → JudgesAll judges i ms rs j → length ms ≡ length rs
  judged_count i j [] [] h = refl
  judged_count i j [] (r ∷ rs) h = absurd h
  judged_count i j (m ∷ ms) [] h = absurd h
  judged_count i j (m ∷ ms) (r ∷ rs) (x, one, h) = ap suc (judged_count x j ms rs h)

  pub replied_none : (j : J) (ms : List (List ℕ)) (answers : List Answer → Type 0) → answers [] → ms ≡ [] → (rs : List Reply) × Replied judges j j ms rs false answers
  replied_none j ms answers none e = (
    [],
    record {
      judged = rw e refl;
      some = λ h. absurd (cc);
      told = none;
    },
  )

  module _ (j k : J) (m : List ℕ) (ms : List (List ℕ)) (r : Reply) (answers : List Answer → Type 0)
      (e : ms ≡ m ∷ []) (judged : judges j (message_of m) r k) where
    pub replied_one : (is_given : Bool) → answers (answer_of (reply_bytes r) is_given ∷ [])
        → (rs : List Reply) × Replied judges j k ms rs (not is_given) answers
    replied_one true told = (r ∷ [], record { judged = rw e (k, judged, refl); some = λ h. omega arith; told = told })
    replied_one false told = (r ∷ [], record { judged = rw e (k, judged, refl); some = λ h. omega arith; told = told })

  pub replied_more : (i j k : J) (ms ms' : List (List ℕ)) (rs rs' : List Reply) (lost : Bool) (a b c : List Answer → Type 0)
      → Replied judges i j ms rs false a → Replied judges j k ms' rs' lost b → ((xs ys : List Answer) → a xs → b ys → c (xs ++ ys))
      → Replied judges i k (ms ++ ms') (rs ++ rs') lost c
  replied_more i j k ms ms' rs rs' lost a b c one two both = record {
    judged = judged_more i j k ms ms' rs rs' one.judged two.judged;
    some = λ e. let more = two.some e in let all = length-append rs rs' in omega arith;
    told = subst c (sym (answers_more lost rs rs' two.some)) (both (answers_to false rs) (answers_to lost rs') one.told two.told);
  }

-- ---- a session behind a stream

pub opened_partial : (is_closed : Bool) (items rest : List ℕ) → is_partial items ≡ true → (if is_closed then shut else opened items) ≡ opened rest → is_partial rest ≡ true
opened_partial true items rest h e = absurd (cc)
opened_partial false items rest h e = let same : items ≡ rest = cc in subst (λ xs. is_partial xs ≡ true) same h

-- it is open, with what the messages of the stream leave pending
pub reached_open : (stream : List ℕ) (s : State) → s ≡ opened (messages_of stream).rest → is_partial (messages_of stream).rest ≡ true → Reached stream s (messages_of stream).messages
reached_open stream s e h =
    let split = the_split stream in
    let pends : Pends stream (messages_of stream).messages (messages_of stream).rest = record { parts = split.parts; each = split.each; partial = h } in
    subst (λ x. Reached stream x (messages_of stream).messages) (sym e) pends

left_open : (s : State) (p rest : List ℕ) (f : Frame) → s ≡ opened p → s ≡ left_by rest f → s ≡ opened rest
left_open s p rest (NeedMore n) e h = h
left_open s p rest (Whole size) e h = h
left_open s p rest BadSize e h = absurd (cc)

left_shut : (s : State) (rest : List ℕ) (f : Frame) → s ≡ shut → s ≡ left_by rest f → f ≡ BadSize
left_shut s rest (NeedMore n) e h = absurd (cc)
left_shut s rest (Whole size) e h = absurd (cc)
left_shut s rest BadSize e h = refl

-- a call that gives nothing uses the whole piece, and leaves the session open
nothing_by : (pending piece : List ℕ) (f : Frame) → (fed_by pending piece f).gives ≡ nothing → ((fed_by pending piece f).used ≡ length piece) × ((fed_by pending piece f).after ≡ opened (pending ++ piece))
nothing_by pending piece (NeedMore n) e = (refl, refl)
nothing_by pending piece (Whole size) e = absurd (cc)
nothing_by pending piece BadSize e = absurd (cc)

nothing_left : (s : State) (piece : List ℕ) → (feed_of s piece).gives ≡ nothing → ((feed_of s piece).used ≡ length piece) × ((p : List ℕ) × ((feed_of s piece).after ≡ opened p))
nothing_left (opened pending) piece e = let h = nothing_by pending piece (frame_of (pending ++ piece)) e in (h.0, (pending ++ piece, h.1))
nothing_left shut piece e = absurd (cc)

closed_by : (pending piece : List ℕ) (f : Frame) → (fed_by pending piece f).gives ≡ tells_shut → (fed_by pending piece f).after ≡ shut
closed_by pending piece (NeedMore n) e = absurd (cc)
closed_by pending piece (Whole size) e = absurd (cc)
closed_by pending piece BadSize e = refl

closed_after : (s : State) (piece : List ℕ) → (feed_of s piece).gives ≡ tells_shut → (feed_of s piece).after ≡ shut
closed_after (opened pending) piece e = closed_by pending piece (frame_of (pending ++ piece)) e
closed_after shut piece e = refl

-- a broken stream stays broken
broken_more : (stream more : List ℕ) (ms : List (List ℕ)) → Reached stream shut ms → Reached (stream ++ more) shut (ms ++ [])
unfolding take_within
broken_more stream more ms r = within_reaches (suc (length more)) stream more shut ms (omega arith) r

-- ---- a piece

-- A front of the piece was heard, and the messages that end in it were answered.
pub record HasHeard {J : Type 0} (judges : J → MessageReading → Reply → J → Type 0) (first j : J) (answers : List Answer → Type 0)
    (stream piece rest : List ℕ) (s : State) : Type 0 where
  pub front : List ℕ
  pub ms : List (List ℕ)
  pub rs : List Reply
  pub parts : piece ≡ front ++ rest
  pub reached : Reached (stream ++ front) s ((messages_of stream).messages ++ ms)
  pub replied : Replied judges first j ms rs false answers

module _ (stream piece front rest : List ℕ) (parts : piece ≡ front ++ rest) where
  -- so many more bytes of it
  pub front_more : (n : ℕ) → (stream ++ front) ++ take n rest ≡ stream ++ (front ++ take n rest)
  front_more n = append_assoc stream front (take n rest)

  pub parts_more : (n : ℕ) → piece ≡ (front ++ take n rest) ++ drop n rest
  parts_more n = parts ∙ ap (λ l. front ++ l) (sym (take-append-drop n rest)) ∙ sym (append_assoc front (take n rest) (drop n rest))

  all_of_it : (stream ++ front) ++ rest ≡ stream ++ piece
  all_of_it = append_assoc stream front rest ∙ ap (λ l. stream ++ l) (sym parts)

  behind_it : (n : ℕ) → (stream ++ (front ++ take n rest)) ++ drop n rest ≡ stream ++ piece
  behind_it n = append_assoc stream (front ++ take n rest) (drop n rest) ∙ ap (λ l. stream ++ l) (sym (parts_more n))

  module _ (s : State) (ms : List (List ℕ)) (r : Reached (stream ++ front) s ((messages_of stream).messages ++ ms)) where
    fed : Fed
    fed = feed_of s rest

    pub reached_more : Reached (stream ++ (front ++ take (feed_of s rest).used rest)) (feed_of s rest).after ((messages_of stream).messages ++ (ms ++ messages_in (feed_of s rest).gives))
    reached_more =
        subst (λ l. Reached l (feed_of s rest).after ((messages_of stream).messages ++ (ms ++ messages_in (feed_of s rest).gives))) (front_more (feed_of s rest).used)
        (subst (Reached ((stream ++ front) ++ take (feed_of s rest).used rest) (feed_of s rest).after) (append_assoc (messages_of stream).messages ms (messages_in (feed_of s rest).gives))
        (feed_reaches (stream ++ front) rest s ((messages_of stream).messages ++ ms) r))

    -- the piece ends
    pub hears_all : (feed_of s rest).gives ≡ nothing → HearsPiece stream piece (ms ++ messages_in (feed_of s rest).gives) (feed_of s rest).after None
    hears_all e =
        let (all, (p, left)) = nothing_left s rest e in
        let here : stream ++ (front ++ take (feed_of s rest).used rest) ≡ stream ++ piece =
        ap (λ n. stream ++ (front ++ take n rest)) all ∙ ap (λ l. stream ++ (front ++ l)) (take-length rest) ∙ ap (λ l. stream ++ l) (sym parts) in
        let there = subst (λ l. Reached l (feed_of s rest).after ((messages_of stream).messages ++ (ms ++ messages_in (feed_of s rest).gives))) here reached_more in
        (reached_messages (stream ++ piece) (feed_of s rest).after _ there, left_open _ p (messages_of (stream ++ piece)).rest (frame_of (messages_of (stream ++ piece)).rest) left (reached_state (stream ++ piece) (feed_of s rest).after _ there))

    -- a bad size
    pub hears_bad : (feed_of s rest).gives ≡ tells_shut → HearsPiece stream piece (ms ++ messages_in (feed_of s rest).gives) (feed_of s rest).after (Some end.BadSize)
    hears_bad e =
        let n = (feed_of s rest).used in
        let here = subst (λ x. Reached (stream ++ (front ++ take n rest)) x ((messages_of stream).messages ++ (ms ++ messages_in (feed_of s rest).gives))) (closed_after s rest e) reached_more in
        let more = broken_more (stream ++ (front ++ take n rest)) (drop n rest) _ here in
        let there = subst (λ l. Reached l shut (((messages_of stream).messages ++ (ms ++ messages_in (feed_of s rest).gives)) ++ [])) (behind_it n) more in (
          reached_messages (stream ++ piece) shut _ there ∙ append-nil _,
          left_shut shut (messages_of (stream ++ piece)).rest (frame_of (messages_of (stream ++ piece)).rest) refl (reached_state (stream ++ piece) shut _ there),
        )

    -- the reply to a message is lost
    pub hears_some : 0 < length (messages_in (feed_of s rest).gives) → HearsPiece stream piece (ms ++ messages_in (feed_of s rest).gives) (feed_of s rest).after (Some end.AnswerFailed)
    hears_some some =
        let n = (feed_of s rest).used in
        let new = ms ++ messages_in (feed_of s rest).gives in
        let t = take_within (suc (length (drop n rest))) (feed_of s rest).after (drop n rest) in
        let more = within_reaches (suc (length (drop n rest))) (stream ++ (front ++ take n rest)) (drop n rest) (feed_of s rest).after ((messages_of stream).messages ++ new) (omega arith) reached_more in
        let there = subst (λ l. Reached l t.after (((messages_of stream).messages ++ new) ++ t.messages)) (behind_it n) more in
        let long = length-append ms (messages_in (feed_of s rest).gives) in
        (omega arith, (t.messages, reached_messages (stream ++ piece) t.after _ there ∙ append_assoc (messages_of stream).messages new t.messages))

-- ---- the loop over a piece

module _ {J : Type 0} (judges : J → MessageReading → Reply → J → Type 0) where
  pub heard_none : (j : J) (answers : List Answer → Type 0) → answers [] → (stream piece : List ℕ) (s : State)
      → s ≡ opened (messages_of stream).rest → is_partial (messages_of stream).rest ≡ true → HasHeard judges j j answers stream piece piece s
  heard_none j answers given stream piece s e h =
      let ms = (messages_of stream).messages in
      let none = replied_none judges j [] answers given refl in
      record {
        front = [];
        ms = [];
        rs = none.0;
        parts = refl;
        reached = subst (λ l. Reached (stream ++ []) s l) (sym (append-nil ms)) (subst (λ l. Reached l s ms) (sym (append-nil stream)) (reached_open stream s e h));
        replied = none.1;
      }

  module _ (first j k : J) (a b c : List Answer → Type 0) (both : (xs ys : List Answer) → a xs → b ys → c (xs ++ ys))
      (stream piece rest : List ℕ) (s : State) (so_far : HasHeard judges first j a stream piece rest s) (rs : List Reply) where
    pub heard_more : (rest' : List ℕ) (s' : State) → Replied judges j k (messages_in (feed_of s rest).gives) rs false b → s' ≡ (feed_of s rest).after
        → rest' ≡ drop (feed_of s rest).used rest → HasHeard judges first k c stream piece rest' s'
    heard_more rest' s' one after behind = record {
      front = so_far.front ++ take (feed_of s rest).used rest;
      ms = so_far.ms ++ messages_in (feed_of s rest).gives;
      rs = so_far.rs ++ rs;
      parts = parts_more stream piece so_far.front rest so_far.parts (feed_of s rest).used ∙ ap (λ l. (so_far.front ++ take (feed_of s rest).used rest) ++ l) (sym behind);
      reached = subst (λ t. Reached (stream ++ (so_far.front ++ take (feed_of s rest).used rest)) t ((messages_of stream).messages ++ (so_far.ms ++ messages_in (feed_of s rest).gives))) (sym after)
          (reached_more stream piece so_far.front rest so_far.parts s so_far.ms so_far.reached);
      replied = replied_more judges first j k so_far.ms _ so_far.rs rs false a b c so_far.replied one both;
    }

    abbrev Ends : State → Bool → Option SessionEnd → Type 0
    Ends s' lost how = (ms : List (List ℕ)) × (all : List Reply) × HearsPiece stream piece ms s' how × Replied judges first k ms all lost c

    ends_so : (s' : State) (lost : Bool) (how : Option SessionEnd) → Replied judges j k (messages_in (feed_of s rest).gives) rs lost b → s' ≡ (feed_of s rest).after
        → HearsPiece stream piece (so_far.ms ++ messages_in (feed_of s rest).gives) (feed_of s rest).after how → Ends s' lost how
    ends_so s' lost how one after hears = (
      so_far.ms ++ messages_in (feed_of s rest).gives,
      so_far.rs ++ rs,
      subst (λ t. HearsPiece stream piece (so_far.ms ++ messages_in (feed_of s rest).gives) t how) (sym after) hears,
      replied_more judges first j k so_far.ms _ so_far.rs rs lost a b c so_far.replied one both,
    )

    pub ends_whole : (s' : State) → Replied judges j k (messages_in (feed_of s rest).gives) rs false b → s' ≡ (feed_of s rest).after → (feed_of s rest).gives ≡ nothing → Ends s' false None
    ends_whole s' one after e = ends_so s' false None one after (hears_all stream piece so_far.front rest so_far.parts s so_far.ms so_far.reached e)

    pub ends_bad : (s' : State) → Replied judges j k (messages_in (feed_of s rest).gives) rs false b → s' ≡ (feed_of s rest).after → (feed_of s rest).gives ≡ tells_shut
        → Ends s' false (Some end.BadSize)
    ends_bad s' one after e = ends_so s' false (Some end.BadSize) one after (hears_bad stream piece so_far.front rest so_far.parts s so_far.ms so_far.reached e)

    pub ends_lost : (s' : State) → Replied judges j k (messages_in (feed_of s rest).gives) rs true b → s' ≡ (feed_of s rest).after → (m : List ℕ) → (feed_of s rest).gives ≡ message m
        → Ends s' true (Some end.AnswerFailed)
    ends_lost s' one after m e =
        let some : 1 ≡ length (messages_in (feed_of s rest).gives) = sym (ap (λ t. length (messages_in t)) e) in
        ends_so s' true (Some end.AnswerFailed) one after (hears_some stream piece so_far.front rest so_far.parts s so_far.ms so_far.reached (omega (arith, some)))
