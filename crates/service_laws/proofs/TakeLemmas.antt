-- A run that is given one service's messages at their marks.
use Rattle.std.proofs.Common.{◌≡◌, ℕ, zero, suc, ◌≤◌, Bool, true, List, [], ◌∷◌, ◌++◌, ◌&&◌, filter, length, take, drop, refl, sym, ap, subst, ◌∙◌, arith, inl, inr, length-append}
use Rattle.std.proofs.lemmas.Bool.{cases_lt, cond_both, cond-true, cond-false}
use Rattle.std.specs.List.{AllByRecursion, list_all}
use Rattle.std.proofs.lemmas.List.{append-nil, drop_at, take_all, take-append-drop, take-append-le, take-take}
use Rattle.std.proofs.lemmas.List.Elements.{filter-append}
use Rattle.std.proofs.lemmas.List.Folds.{list_all-append}
use Rattle.std.proofs.Math.Seq.{take-nil}
use Rattle.std.proofs.lemmas.Grind.{flat_map-append}
use Rattle.wire_fields.specs.Numbers.{AreBytes}
use Rattle.scte104_codec.specs.Framing.{frame_of}
use Rattle.scte104_codec.specs.Reading.{message_of}
use Rattle.scte104_codec.proofs.WidthLemmas.{front_bytes, both_bytes}
use Rattle.as_session.specs.Laws.{IsInWidth}
use Rattle.as_session.specs.Messages.{IsMessage, joined, NoneFirst, Split, messages_of, messages_within}
use Rattle.as_session.specs.Pending.{is_partial}
use Rattle.as_session.proofs.FrameLemmas.{partial_none}
use Rattle.as_session.proofs.SplitLemmas.{the_split, only_split}
use Rattle.as_session.proofs.WidthLemmas.{each_message_fits}
use Rattle.injector.specs.Steps.{Step, Message, Packet}
use Rattle.chain_engine.specs.Automation.{Take, piece, bytes_in, bytes_of}
use Rattle.chain_engine.specs.Talks.{is_piece, messages_taken, messages_judged, judged_before}
use Rattle.chain_engine.specs.Runs.{asked, steps_of, steps_before}
use Rattle.chain_engine.proofs.StepsLemmas.{messages_front}
use Rattle.chain_engine.proofs.TalkLemmas.{bytes_more, none_bytes}
use Rattle.service_laws.specs.Messages.{is_for, own_steps}
use Rattle.service_laws.specs.Takes.{own_messages, own_takes, own_judged}
use Rattle.service_laws.specs.Laws.{OwnTakesGive}

-- ---- lists

-- what holds of each element holds of each of the first
each_taken : {X : Type 0} (P : X → Type 0) (n : ℕ) (xs : List X) → AllByRecursion P xs → AllByRecursion P (take n xs)
each_taken P zero xs h = tt
each_taken P (suc n) [] h = tt
each_taken P (suc n) (x ∷ xs) h = (h.0, each_taken P n xs h.1)

-- and of each that a test keeps
each_kept : {X : Type 0} (P : X → Type 0) (test : X → Bool) (xs : List X) → AllByRecursion P xs → AllByRecursion P (filter test xs)
each_kept P test [] h = tt
each_kept P test (x ∷ xs) h =
    let behind = each_kept P test xs h.1 in
    cond_both (test x) (x ∷ filter test xs) (filter test xs) (AllByRecursion P) (λ k. (h.0, behind)) (λ k. behind)

-- the first of a list with more behind it: those of the list, and then others
front_goes_on : {X : Type 0} (most : ℕ) (xs more : List X) → take most (xs ++ more) ≡ take most xs ++ drop (length (take most xs)) (take most (xs ++ more))
front_goes_on zero xs more = refl
front_goes_on (suc n) [] more = refl
front_goes_on (suc n) (x ∷ xs) more = ap (λ l. x ∷ l) (front_goes_on n xs more)

-- ---- whole messages, joined

-- no bytes have no messages
no_messages : (messages_of []).messages ≡ []
unfolding messages_within
no_messages = refl

-- and no whole message at their front
none_first : NoneFirst (frame_of [])
unfolding frame_of
none_first = tt

-- whole messages, one after another, are these messages and nothing else
pub joined_messages : (ms : List (List ℕ)) → AllByRecursion IsMessage ms → messages_of (joined ms) ≡ record { messages = ms; rest = [] }
joined_messages ms each = only_split (joined ms) (record { messages = ms; rest = [] }) (record { parts = sym (append-nil (joined ms)); each = each; none_first = none_first })

-- and of bytes where each of them is
joined_bytes : (ms : List (List ℕ)) → AllByRecursion IsInWidth ms → AreBytes (joined ms)
joined_bytes [] each = none_bytes
joined_bytes (m ∷ ms) each = both_bytes m (joined ms) each.0.bytes (joined_bytes ms each.1)

-- ---- a history

-- a service's own messages behind its own history
pub own_asked : (index : ℕ) (ms : List (List ℕ)) (past : List Step) → asked (own_messages index ms) (own_steps index past) ≡ own_steps index (asked ms past)
own_asked index [] past = refl
own_asked index (m ∷ ms) past =
    let behind = own_asked index ms (Message (message_of m) ∷ past) in
    let b = is_for index (message_of m) in
    let ns = own_messages index ms in
    let own = own_steps index past in
    let more = Message (message_of m) ∷ own in
    cond_both b (m ∷ ns) ns (λ l. asked l own ≡ own_steps index (asked ms (Message (message_of m) ∷ past)))
    (λ h. sym (ap (asked ns) (cond-true b more own h)) ∙ behind)
    (λ h. sym (ap (asked ns) (cond-false b more own h)) ∙ behind)

-- ---- the takes

module _ (index most : ℕ) (ts : List Take) where
  -- the messages judged before a packet follow those before the one before it
  pub judged_more : (k : ℕ) → messages_judged most (take (suc k) ts) ≡ messages_judged most (take k ts) ++ judged_before most ts k
  judged_more k =
      let us = take (suc k) ts in
      let (more, front) = messages_front (bytes_of (take k ts)) (bytes_of (drop k us)) in
      let whole : bytes_of (take k ts) ++ bytes_of (drop k us) ≡ bytes_of us =
      ap (λ l. bytes_of l ++ bytes_of (drop k us)) (sym (take-take k (suc k) ts (omega arith)))
      ∙ sym (flat_map-append bytes_in (take k us) (drop k us)) ∙ ap bytes_of (take-append-drop k us) in
      let all : messages_taken us ≡ messages_taken (take k ts) ++ more = sym (ap (λ (b : List ℕ). (messages_of b).messages) whole) ∙ front in
      subst (λ ms. take most ms ≡ messages_judged most (take k ts) ++ drop (length (messages_judged most (take k ts))) (take most ms)) (sym all) (front_goes_on most (messages_taken (take k ts)) more)

  -- the service's own messages before so many packets
  abbrev own_in : ℕ → List (List ℕ)
  own_in k = own_messages index (messages_judged most (take k ts))

  -- and those judged between a packet and the next
  abbrev own_before : ℕ → List (List ℕ)
  own_before k = own_messages index (judged_before most ts k)

  -- before the first packet none
  own_none : own_in zero ≡ []
  own_none = ap (λ ms. own_messages index (take most ms)) no_messages ∙ ap (own_messages index) (take-nil most)

  -- before the next packet these, and those judged between
  own_more : (k : ℕ) → own_in (suc k) ≡ own_in k ++ own_before k
  own_more k = ap (own_messages index) (judged_more k) ∙ filter-append (λ m. is_for index (message_of m)) (messages_judged most (take k ts)) (judged_before most ts k)

  -- they are whole messages
  own_whole : (k : ℕ) → AllByRecursion IsMessage (own_in k)
  own_whole k =
      each_kept IsMessage (λ m. is_for index (message_of m)) (messages_judged most (take k ts))
      (each_taken IsMessage most (messages_taken (take k ts)) (the_split (bytes_of (take k ts))).each)

  -- there is a take for each packet
  own_long : (k : ℕ) → length (own_takes index most ts k) ≡ k
  own_long zero = refl
  own_long (suc k) =
      let sum = length-append (own_takes index most ts k) (piece (joined (own_before k)) ∷ []) in
      let before = own_long k in
      omega (arith, sum, before)

  -- each of them a piece
  own_pieces : (k : ℕ) → list_all is_piece (own_takes index most ts k) ≡ true
  own_pieces zero = refl
  own_pieces (suc k) =
      list_all-append is_piece (own_takes index most ts k) (piece (joined (own_before k)) ∷ []) ∙ ap (λ b. b && true) (own_pieces k)

  -- the takes are these messages, one after another
  own_bytes : (k : ℕ) → bytes_of (own_takes index most ts k) ≡ joined (own_in k)
  own_bytes zero = ap joined (sym own_none)
  own_bytes (suc k) =
      bytes_more (own_takes index most ts k) (piece (joined (own_before k)))
      ∙ ap (λ l. l ++ joined (own_before k)) (own_bytes k)
      ∙ sym (flat_map-append (λ (m : List ℕ). m) (own_in k) (own_before k))
      ∙ ap joined (sym (own_more k))

  -- so they have these messages, and nothing left
  own_split : (k : ℕ) → messages_of (bytes_of (own_takes index most ts k)) ≡ record { messages = own_in k; rest = [] }
  own_split k = ap messages_of (own_bytes k) ∙ joined_messages (own_in k) (own_whole k)

  -- the messages in them are the service's own
  own_taken : (k : ℕ) → messages_taken (own_takes index most ts k) ≡ own_in k
  own_taken k = ap (λ (split : Split). split.messages) (own_split k)

  -- the takes before fewer packets are the first of them
  own_front : (j k : ℕ) → j ≤ k → take j (own_takes index most ts k) ≡ own_takes index most ts j
  own_front j zero le =
      let same : zero ≡ j = omega (arith, le) in
      subst (λ n. take n (own_takes index most ts zero) ≡ own_takes index most ts n) same refl
  own_front j (suc k) le =
      elim (cases_lt k j) [
        | inl lt ↦ let same : suc k ≡ j = omega (arith, le, lt) in
            let long = own_long (suc k) in
            take_all j (own_takes index most ts (suc k)) (omega (arith, long, same)) ∙ ap (own_takes index most ts) same
        | inr below ↦ let long = own_long k in
            take-append-le j (own_takes index most ts k) (piece (joined (own_before k)) ∷ []) (omega (arith, long, below)) ∙ own_front j k below
      ]

  -- and have no more messages
  own_grows : (j k : ℕ) → j ≤ k → length (own_in j) ≤ length (own_in k)
  own_grows j zero le =
      let same : j ≡ zero = omega (arith, le) in
      let long = ap (λ n. length (own_in n)) same in
      omega (arith, long)
  own_grows j (suc k) le =
      let more = ap length (own_more k) in
      let sum = length-append (own_in k) (own_before k) in
      elim (cases_lt k j) [
        | inl lt ↦ let same : j ≡ suc k = omega (arith, le, lt) in
            let long = ap (λ n. length (own_in n)) same in
            omega (arith, long)
        | inr below ↦ let before = own_grows j k below in
            omega (arith, before, more, sum)
      ]

  module _ (k : ℕ) where
    -- of the takes before k packets those messages are judged that are the service's own, before each packet
    own_judged_in : (j : ℕ) → j ≤ k → messages_judged (own_judged index most ts k) (take j (own_takes index most ts k)) ≡ own_in j
    own_judged_in j le =
        let few = own_grows j k le in
        ap (λ l. take (length (own_in k)) (messages_taken l)) (own_front j k le) ∙ ap (take (length (own_in k))) (own_taken j) ∙ take_all (length (own_in k)) (own_in j) few

    -- and between it and the next
    own_judged_before : (j : ℕ) → suc j ≤ k → judged_before (own_judged index most ts k) (own_takes index most ts k) j ≡ own_before j
    own_judged_before j le =
        let here = own_judged_in j (omega (arith, le)) in
        let next = own_judged_in (suc j) le in
        ap (λ l. drop (length l) (messages_judged (own_judged index most ts k) (take (suc j) (own_takes index most ts k)))) here
        ∙ ap (drop (length (own_in j))) (next ∙ own_more j) ∙ drop_at (own_in j) (own_before j) (length (own_in j)) refl

    -- so the history is the service's own
    own_history : (past : List (List ℕ)) → length past ≤ k → steps_of (own_judged index most ts k) (own_takes index most ts k) past ≡ own_steps index (steps_of most ts past)
    own_history [] le = refl
    own_history (p ∷ past) le =
        let judged = own_judged_before (length past) le in
        let before = own_history past (omega (arith, le)) in
        ap (λ l. Packet p ∷ asked l (steps_of (own_judged index most ts k) (own_takes index most ts k) past)) judged
        ∙ ap (λ s. Packet p ∷ asked (own_before (length past)) s) before
        ∙ ap (λ s. Packet p ∷ s) (own_asked index (judged_before most ts (length past)) (steps_of most ts past))

    -- and that before the packet behind it
    pub own_history_before : (past : List (List ℕ)) → suc (length past) ≤ k → steps_before (own_judged index most ts k) (own_takes index most ts k) past ≡ own_steps index (steps_before most ts past)
    own_history_before past le =
        ap (λ l. asked l (steps_of (own_judged index most ts k) (own_takes index most ts k) past)) (own_judged_before (length past) le)
        ∙ ap (asked (own_before (length past))) (own_history past (omega (arith, le)))
        ∙ own_asked index (judged_before most ts (length past)) (steps_of most ts past)

  -- the messages are of bytes where what was taken is
  own_widths : (k : ℕ) → AreBytes (bytes_of ts) → AllByRecursion IsInWidth (own_in k)
  own_widths k bytes =
      let front : AreBytes (bytes_of (take k ts)) =
      front_bytes (bytes_of (take k ts)) (bytes_of (drop k ts)) (subst (λ (b : List ℕ). AreBytes b) (ap bytes_of (sym (take-append-drop k ts)) ∙ flat_map-append bytes_in (take k ts) (drop k ts)) bytes) in
      each_kept IsInWidth (λ m. is_for index (message_of m)) (messages_judged most (take k ts)) (each_taken IsInWidth most (messages_taken (take k ts)) (each_message_fits (bytes_of (take k ts)) front))

-- THE LAW OF TAKES
pub own_takes_give : OwnTakesGive
own_takes_give index most ts past bytes =
    let k = length past in
    let split = own_split index most ts k in
    record {
      steps = own_history index most ts k past (omega arith);
      talked = (
        own_long index most ts k,
        record { pieces = own_pieces index most ts k; partial = ap (λ (s : Split). is_partial s.rest) split ∙ partial_none [] refl },
        sym (ap length (own_taken index most ts k)),
      );
      bytes = subst (λ (b : List ℕ). AreBytes b) (sym (own_bytes index most ts k)) (joined_bytes (own_messages index (messages_judged most (take k ts))) (own_widths index most ts k bytes));
    }
