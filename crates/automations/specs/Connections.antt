-- What a connection reads of its client, and writes to it.
use Rattle.std.specs.Prelude.{◌≡◌, ◌⊎◌, ℕ, ◌+◌, ◌<◌, ◌≤◌, true, List, [], ◌++◌, Option, take}
use Rattle.std.specs.List.{flat_map}
use Rattle.std.specs.Io.KnownBytes.{Keeps, Consumes, Appends, IsAtEnd}
use Rattle.std.proofs.Common.{ap, sym, subst, ◌∙◌}
use Rattle.std.proofs.KnownBytes.{Consumes-nil, Consumes-trans, Appends-nil, Appends-trans}
use Rattle.std.proofs.lemmas.Grind.{flat_map-append}
use Rattle.ts_packet.specs.Transfers.{IsCounted}
use Rattle.std.specs.Prelude.{◌∷◌}
use Rattle.std.specs.Net.Addr.{ipv4_octets}
use Rattle.std.specs.Net.Socket.{IsPlainSocket, socket_ip}
use Rattle.std.specs.declared.net.ip_addr.IpAddr.{IpAddr}
use Rattle.std.specs.declared.net.ip_addr.IpAddr.TheVariants as ip
use Rattle.std.specs.declared.net.socket_addr.SocketAddr.{SocketAddr}
use Rattle.chain_engine.specs.Automation.{Answer, Exchange, takes_in, answers_in, bytes_in, bytes_of}
use Rattle.chain_engine.specs.declared.automation.Taken.{Taken}
use Rattle.chain_engine.specs.declared.automation.Taken.TheVariants.{Bytes, Nothing, Ended, Failed}
use Rattle.chain_engine.proofs.ExchangeLemmas.{takes_both, answers_both_in}
use Rattle.automations.specs.ScriptAnswers.{are_given, given_both}
use Rattle.automations.specs.declared.calls.ReadCounts.{ReadCounts}
use Rattle.automations.specs.declared.connection.Connection.{Connection}
use Rattle.automations.specs.Calls.{HasRead, FoundNothing, FailedToRead, no_reads, no_writes}

-- THE ADDRESS of a port of 127.0.0.1: of this machine alone
abbrev pub IsLoopback : IpAddr → Type 0
IsLoopback (ip.V4 a) = ipv4_octets a ≡ 127 ∷ 0 ∷ 0 ∷ 1 ∷ []
IsLoopback (ip.V6 a) = ⊥

abbrev pub IsLocalPort : SocketAddr → ℕ → Type 0
IsLocalPort address port = IsLoopback (socket_ip address) × IsPlainSocket address port

-- A connection was asked for nothing yet, and its first take asks the client.
pub record IsUnasked {R W : Type 0} (c : Connection R W) : Type 0 where
  pub quiet : c.quiet ≡ 0
  pub reads : c.requests.counts ≡ no_reads
  pub writes : c.replies.counts ≡ no_writes
  pub failures : c.failures ≡ 0

-- bytes come off the front of those that the stream has left; it has none at the end, and else keeps them
abbrev pub IsTakenFrom : Option (List ℕ) → Option (List ℕ) → List ℕ → Taken → Type 0
IsTakenFrom old new room (Bytes n) = (0 < n) × Consumes old new (take n room)
IsTakenFrom old new room Nothing = Keeps old new
IsTakenFrom old new room Ended = IsAtEnd new
IsTakenFrom old new room Failed = Keeps old new

-- WHAT A TAKE TELLS is what became of its read: bytes, the client's end, a failure for good, or that nothing was there; and where it asked
-- nothing, one of the takes that need not ask is gone
abbrev pub IsTakenBy : ℕ → ℕ → ReadCounts → ReadCounts → Taken → Type 0
IsTakenBy quiet quiet' old new (Bytes n) = HasRead n old new
IsTakenBy quiet quiet' old new Nothing = ((quiet' + 1 ≡ quiet) × (new ≡ old)) ⊎ FoundNothing old new
IsTakenBy quiet quiet' old new Ended = HasRead 0 old new
IsTakenBy quiet quiet' old new Failed = FailedToRead old new

-- A take asks the client by a read, and at most 15 takes behind it need not; or it counts one of these, and asks nothing. So of sixteen takes
-- in a row one at least asks.
abbrev pub AsksInTurn : ℕ → ℕ → ℕ → ℕ → Type 0
AsksInTurn quiet quiet' reads reads' = (IsCounted reads reads' × (quiet' ≤ 15)) ⊎ ((quiet' + 1 ≡ quiet) × (reads' ≡ reads))

-- the replies of these answers, one after another
abbrev pub replies_of : List Answer → List ℕ
replies_of answers = flat_map (λ (a : Answer). a.reply) answers

-- THE EXCHANGES OF A CONNECTION between these states: the bytes that it gave are the client's next ones, in order; and where each reply was
-- taken whole, what they are written to has grown by the replies, in order
abbrev pub ConnectionExchanges : {R W : Type 0} → (R → Option (List ℕ)) → (W → Option (List ℕ)) → Connection R W → List Exchange → Connection R W → Type 0
ConnectionExchanges remaining contents s es t =
    Consumes (remaining s.requests.reader) (remaining t.requests.reader) (bytes_of (takes_in es))
    × (are_given (answers_in es) ≡ true → Appends (contents s.replies.writer) (contents t.replies.writer) (replies_of (answers_in es)))

-- ---- exchanges follow one another

pub ConnectionExchanges-refl : {R W : Type 0} (remaining : R → Option (List ℕ)) (contents : W → Option (List ℕ)) (s : Connection R W)
    → ConnectionExchanges remaining contents s [] s
ConnectionExchanges-refl remaining contents s = (Consumes-nil (remaining s.requests.reader), λ given. Appends-nil (contents s.replies.writer))

bytes_both : (xs ys : List Exchange) → bytes_of (takes_in xs) ++ bytes_of (takes_in ys) ≡ bytes_of (takes_in (xs ++ ys))
bytes_both xs ys = sym (flat_map-append bytes_in (takes_in xs) (takes_in ys)) ∙ ap bytes_of (sym (takes_both xs ys))

replies_both : (xs ys : List Exchange) → replies_of (answers_in xs) ++ replies_of (answers_in ys) ≡ replies_of (answers_in (xs ++ ys))
replies_both xs ys = sym (flat_map-append (λ (a : Answer). a.reply) (answers_in xs) (answers_in ys)) ∙ ap replies_of (sym (answers_both_in xs ys))

pub ConnectionExchanges-trans : {R W : Type 0} (remaining : R → Option (List ℕ)) (contents : W → Option (List ℕ)) (s t u : Connection R W)
    (xs ys : List Exchange) → ConnectionExchanges remaining contents s xs t → ConnectionExchanges remaining contents t ys u
    → ConnectionExchanges remaining contents s (xs ++ ys) u
ConnectionExchanges-trans remaining contents s t u xs ys one two = (
  subst (Consumes (remaining s.requests.reader) (remaining u.requests.reader)) (bytes_both xs ys)
      (Consumes-trans (remaining s.requests.reader) (remaining t.requests.reader) (remaining u.requests.reader) (bytes_of (takes_in xs)) (bytes_of (takes_in ys)) one.0 two.0),
  λ given.
      let (first, second) = given_both (answers_in xs) (answers_in ys) (subst (λ l. are_given l ≡ true) (answers_both_in xs ys) given) in
      subst (Appends (contents s.replies.writer) (contents u.replies.writer)) (replies_both xs ys)
      (Appends-trans (contents s.replies.writer) (contents t.replies.writer) (contents u.replies.writer) (replies_of (answers_in xs)) (replies_of (answers_in ys)) (one.1 first) (two.1 second)),
)
