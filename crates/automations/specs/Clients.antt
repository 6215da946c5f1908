-- What the clients of a port ask together: whole messages, one after another, whatever becomes of the sessions between them.
use Rattle.std.specs.Prelude.{◌≡◌, ◌⊎◌, ℕ, ◌+◌, ◌≤◌, true, false, ◌&&◌, if◌then◌else◌, List, [], ◌++◌, Option, None, Some, length, drop}
use Rattle.std.specs.List.{All, concat}
use Rattle.std.specs.Io.KnownBytes.{Keeps, Consumes, Appends}
use Rattle.std.proofs.Common.{refl, ap, sym, subst, ◌∙◌, append_assoc, append-nil}
use Rattle.std.proofs.lemmas.Grind.{flat_map-append}
use Rattle.std.proofs.lemmas.List.Elements.{All-append, All-nil}
use Rattle.std.proofs.lemmas.List.Folds.{concat-append, list_all-append}
use Rattle.ts_packet.specs.Transfers.{IsCounted}
use Rattle.scte104_codec.specs.Framing.{frame_of}
use Rattle.scte104_codec.specs.declared.framing.Frame.TheVariants.{Whole, BadSize}
use Rattle.chain_engine.specs.Automation.{Take, piece, ended, failed, Answer, Exchange, takes_in, answers_in, bytes_in, bytes_of}
use Rattle.chain_engine.proofs.ExchangeLemmas.{takes_both, answers_both_in}
use Rattle.automations.specs.ScriptAnswers.{are_given}
use Rattle.automations.specs.declared.letter.Letter.{Letter}
use Rattle.automations.specs.declared.letter.Progress.{Progress}
use Rattle.automations.specs.declared.letter.Progress.TheVariants as progress
use Rattle.automations.specs.declared.clients.Client.{Client}

-- the bytes are one message: they end where its field messageSize says (ANSI/SCTE 104, 8.2.1 and 8.2.2)
abbrev pub IsMessage : List ℕ → Type 0
IsMessage bs = frame_of bs ≡ Whole (length bs)

-- the bytes state a size that no message has (ANSI/SCTE 104, 8.2.1 and 8.2.2)
abbrev pub IsBadSize : List ℕ → Type 0
IsBadSize bs = frame_of bs ≡ BadSize

-- ---- a message on its way

-- the bytes that came and were not given on
abbrev pub held : Letter → List ℕ
held l = drop l.given l.bytes.items

-- those of them that are to be given on: of a whole message alone
abbrev pub unsent : Letter → List ℕ
unsent l = if l.is_whole then held l else []

-- what one read does to the bytes that are held of a message, by those that its client has left
abbrev pub ReadsOn : Progress → Option (List ℕ) → Option (List ℕ) → Letter → Letter → Type 0
ReadsOn progress.Whole old new l m = Keeps old new × (m.is_whole ≡ true) × IsMessage (held m) × (held m ≡ held l)
ReadsOn progress.Some old new l m = (bs : List ℕ) × Consumes old new bs × (m.is_whole ≡ false) × (held m ≡ held l ++ bs)
ReadsOn progress.Nothing old new l m = Keeps old new × (m ≡ l)
ReadsOn progress.BadSize old new l m = Keeps old new × (m ≡ l) × IsBadSize (held m)
ReadsOn progress.Over old new l m = m.is_whole ≡ false

-- what reads do until it is whole, or nothing is there
abbrev pub Gathers : Progress → Option (List ℕ) → Option (List ℕ) → Letter → Letter → Type 0
Gathers progress.Whole old new l m = (bs : List ℕ) × Consumes old new bs × (m.is_whole ≡ true) × IsMessage (held m) × (held m ≡ held l ++ bs)
Gathers progress.Some old new l m = (bs : List ℕ) × Consumes old new bs × (m.is_whole ≡ false) × (held m ≡ held l ++ bs)
Gathers progress.Nothing old new l m = (bs : List ℕ) × Consumes old new bs × (m.is_whole ≡ false) × (held m ≡ held l ++ bs)
Gathers progress.BadSize old new l m = (bs : List ℕ) × Consumes old new bs × (m.is_whole ≡ false) × IsBadSize (held m) × (held m ≡ held l ++ bs)
Gathers progress.Over old new l m = m.is_whole ≡ false

-- ---- clients

-- Where a client stays, what was read of it, behind what was held, is what is given and held, in order. Where one goes nothing of it is.
abbrev pub TakesOf : {R : Type 0} → (R → Option (List ℕ)) → Option (Client R) → Option (Client R) → List ℕ → List ℕ → List ℕ → Type 0
TakesOf remaining (Some c) (Some d) old given new = (bs : List ℕ) × Consumes (remaining c.requests.reader) (remaining d.requests.reader) bs
    × (old ++ bs ≡ given ++ new)
TakesOf remaining (Some c) None old given new = given ++ new ≡ []
TakesOf remaining None (Some d) old given new = Unit {0}
TakesOf remaining None None old given new = (given ++ new ≡ []) ⊎ (old ≡ given ++ new)

-- Where no client is there, the listener is asked for one.
abbrev pub AsksListener : {R : Type 0} → Option (Client R) → ℕ → ℕ → Type 0
AsksListener (Some c) asked asked' = asked' ≡ asked
AsksListener None asked asked' = IsCounted asked asked'

-- A take counts one of at most 15 that ask nothing; or it asks the listener, where no client is there, or gives on a message that is whole.
abbrev pub TakesTurn : {R : Type 0} → ℕ → ℕ → Option (Client R) → ℕ → ℕ → Type 0
TakesTurn quiet quiet' client asked asked' = ((quiet' + 1 ≡ quiet) × (asked' ≡ asked))
    ⊎ ((quiet ≡ 0) × (quiet' ≤ 15) × (AsksListener client asked asked' ⊎ (asked' ≡ asked)))

-- A reply is written to the client that is there, whole, or its session ends.
abbrev pub AnswersClient : {W : Type 0} → (W → Option (List ℕ)) → Option (Client W) → Option (Client W) → List ℕ → Type 0
AnswersClient contents (Some c) (Some d) reply = Appends (contents c.replies.writer) (contents d.replies.writer) reply
AnswersClient contents (Some c) None reply = Unit {0}
AnswersClient contents None (Some d) reply = ⊥
AnswersClient contents None None reply = Unit {0}

-- The count of clients that were sent off for a size grows by one where what was held of a message, or is then read of the client that is there
-- or comes, states a size that no message has; else it stays. It stops at the greatest u64.
abbrev pub SendsOff : ℕ → ℕ → List ℕ → Type 0
SendsOff closed closed' old = (closed' ≡ closed) ⊎ (IsCounted closed closed' × ((bs : List ℕ) × IsBadSize (old ++ bs)))

-- no take told an end or a failure
abbrev pub is_piece : Take → Type 0
is_piece (piece bs) = Unit {0}
is_piece ended = ⊥
is_piece failed = ⊥

-- THE EXCHANGES OF THE CLIENTS between these states: no take ends, and all of them together give whole messages, one after another, behind what
-- was to be given yet, up to what is to be given yet; and each reply is taken
pub record ClientsExchange (front : List ℕ) (es : List Exchange) (rest : List ℕ) : Type 0 where
  pub messages : List (List ℕ)
  pub are_messages : All IsMessage messages
  pub gives : front ++ concat messages ≡ bytes_of (takes_in es) ++ rest
  pub pieces : All is_piece (takes_in es)
  pub taken : are_given (answers_in es) ≡ true

-- ---- exchanges follow one another

pub ClientsExchange-refl : (front : List ℕ) → ClientsExchange front [] front
ClientsExchange-refl front = record {
  messages = [];
  are_messages = All-nil IsMessage;
  gives = append-nil front;
  pieces = All-nil is_piece;
  taken = refl;
}

both : (xs ys : List Exchange) → bytes_of (takes_in xs) ++ bytes_of (takes_in ys) ≡ bytes_of (takes_in (xs ++ ys))
both xs ys = sym (flat_map-append bytes_in (takes_in xs) (takes_in ys)) ∙ ap bytes_of (sym (takes_both xs ys))

pub ClientsExchange-trans : (front middle rest : List ℕ) (xs ys : List Exchange) → ClientsExchange front xs middle → ClientsExchange middle ys rest
    → ClientsExchange front (xs ++ ys) rest
ClientsExchange-trans front middle rest xs ys one two = record {
  messages = one.messages ++ two.messages;
  are_messages = All-append IsMessage one.messages two.messages one.are_messages two.are_messages;
  gives = ap (λ l. front ++ l) (concat-append one.messages two.messages)
      ∙ sym (append_assoc front (concat one.messages) (concat two.messages))
      ∙ ap (λ l. l ++ concat two.messages) one.gives
      ∙ append_assoc (bytes_of (takes_in xs)) middle (concat two.messages)
      ∙ ap (λ l. bytes_of (takes_in xs) ++ l) two.gives
      ∙ sym (append_assoc (bytes_of (takes_in xs)) (bytes_of (takes_in ys)) rest)
      ∙ ap (λ l. l ++ rest) (both xs ys);
  pieces = subst (All is_piece) (sym (takes_both xs ys)) (All-append is_piece (takes_in xs) (takes_in ys) one.pieces two.pieces);
  taken = ap are_given (answers_both_in xs ys) ∙ list_all-append (λ (a : Answer). a.is_given) (answers_in xs) (answers_in ys)
      ∙ ap (λ b. b && are_given (answers_in ys)) one.taken ∙ two.taken;
}
