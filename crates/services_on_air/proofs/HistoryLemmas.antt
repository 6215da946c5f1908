-- Several services by the history of a run: what a packet, a message and a fault do to how far each has come.
use Rattle.std.proofs.Common.{◌≡◌, ℕ, suc, List, [], ◌∷◌, ◌++◌, length, Bool, true, false, not, refl, sym, ap, ◌∙◌, arith}
use Rattle.std.specs.Prelude.{if◌then◌else◌, ◌&&◌, nat_lt, map}
use Rattle.std.specs.List.{list_any}
use Rattle.std.proofs.lemmas.Bool.{or_parts}
use Rattle.psi_tables.specs.declared.config.Config.{Config}
use Rattle.program_follower.specs.Purposes.{writing_cues}
use Rattle.scte104_codec.specs.Reading.{MessageReading, message_of}
use Rattle.injector.specs.Replies.{reply_to}
use Rattle.injector.specs.Steps.{Step, Message, Packet, packets_in, turns_in}
use Rattle.service_laws.specs.Messages.{is_for, share_an_index}
use Rattle.service_laws.specs.Services.{ServiceTerms, configs_of}
use Rattle.chain_engine.specs.Automation.{Take}
use Rattle.chain_engine.specs.Runs.{asked, steps_of}
use Rattle.chain_engine.specs.Airing.{Aired}
use Rattle.chain_services.proofs.ServingLemmas.{only_one, apart_behind}
use Rattle.on_air.specs.Stretches.{Entry, Verdict, Is, BeginsNew, is_judged, verdict, first_entry, joined}
use Rattle.on_air.specs.AirRuns.{newest, has_no}
use Rattle.on_air.specs.AirOutputs.{aired}
use Rattle.on_air.specs.Tails.{tail_behind}
use Rattle.services_on_air.specs.Airing.{Airing, next_of, nexts, stretches_with, before_last, leaves, learns, owns, parted_from, parted, settled}
use Rattle.services_on_air.specs.Standing.{IsSettled, AllSettled}
use Rattle.services_on_air.specs.Histories.{Gone, gone_in, own_since, gone_asked, gone_on, gone_anew, gone_settled, begins_anew, aired_as, put_settled, put_own, put_last}
use Rattle.services_on_air.specs.Outputs.{earlier_of, gone_behind, gone_ahead, gones_behind, ended_before, put_by_each, services_air, services_reply, replies_ahead, reply_by_each, left_by_each}
use Rattle.services_on_air.specs.Serving.{gones_ahead, gones_settled, puts_settled, gones_on, puts_on, puts_last, gones_asked, reply_by_gone, one_is_for}
use Rattle.services_on_air.specs.declared.service.AirService.{AirService}

-- ---- no message stands behind the last packet

abbrev pub AtPacket : List Step → Type 0
AtPacket [] = Unit {0}
AtPacket (Message m ∷ steps) = ⊥
AtPacket (Packet p ∷ steps) = Unit {0}

pub at-packet : (n : ℕ) (ts : List Take) (past : List (List ℕ)) → AtPacket (steps_of n ts past)
at-packet n ts [] = tt
at-packet n ts (p ∷ past) = tt

-- ---- the next packet is settled: where no stretch begins with it, it is the newest of the one before

pub record NextSo (ss ns : List (List Entry)) : Type 0 where
  pub e : Entry
  pub anew : Bool
  pub is : (not (has_no ss) && nat_lt (length ss) (length ns)) ≡ anew
  pub some : anew ≡ true → has_no ss ≡ false
  pub parts : ns ≡ (if anew then (e ∷ []) ∷ ss else (e ∷ newest ss) ∷ earlier_of ss)

one-longer : (n : ℕ) → nat_lt n (suc n) ≡ true
one-longer n = grind arith

as-long : (n : ℕ) → nat_lt n n ≡ false
as-long n = grind arith

by-verdict : (c : Config) (p : List ℕ) (past : List Entry) (earlier : List (List Entry)) (v : Verdict) → NextSo (past ∷ earlier) (joined (writing_cues c) v p past earlier)
by-verdict c p past earlier (Is j) =
    record { e = record { packet = p; judgement = j }; anew = false; is = as-long (suc (length earlier)); some = λ not_so. absurd (cc); parts = refl }
by-verdict c p past earlier (BeginsNew fault) =
    record { e = first_entry (writing_cues c) p; anew = true; is = one-longer (suc (length earlier)); some = λ is_so. refl; parts = refl }

pub next-so : (shares : Bool) (c : Config) (p : List ℕ) (ss : List (List Entry)) → NextSo ss (stretches_with shares c p ss)
next-so true c p [] = record { e = first_entry (writing_cues c) p; anew = false; is = refl; some = λ not_so. absurd (cc); parts = refl }
next-so true c p (past ∷ earlier) =
    record { e = first_entry (writing_cues c) p; anew = true; is = one-longer (suc (length earlier)); some = λ is_so. refl; parts = refl }
next-so false c p [] = record { e = first_entry (writing_cues c) p; anew = false; is = refl; some = λ not_so. absurd (cc); parts = refl }
next-so false c p (past ∷ earlier) = by-verdict c p past earlier (verdict (writing_cues c) p past)

-- where one begins, the service has gone nothing of it
anew-is : (t : ServiceTerms) (past : List Entry) (earlier : List (List Entry)) (steps : List Step) → AtPacket steps → gone_in t [] (past ∷ earlier) steps ≡ gone_anew t (gone_in t past earlier steps)
anew-is t past earlier [] at = refl
anew-is t past earlier (Message m ∷ steps) at = absurd at
anew-is t past earlier (Packet q ∷ steps) at = refl

begun-is : (t : ServiceTerms) (ss : List (List Entry)) (steps : List Step) → AtPacket steps → has_no ss ≡ false → gone_in t [] ss steps ≡ gone_anew t (gone_in t (newest ss) (earlier_of ss) steps)
begun-is t [] steps at some = absurd (cc)
begun-is t (past ∷ earlier) steps at some = anew-is t past earlier steps at

ahead-of : ServiceTerms → List (List Entry) → List Step → Gone
ahead-of t ns steps = gone_in t (before_last (newest ns)) (earlier_of ns) steps

pub settled-is : (t : ServiceTerms) (a : Airing) (p : List ℕ) (steps : List Step) → AtPacket steps → gone_ahead t (next_of p a) steps ≡ gone_settled t (begins_anew p a) (gone_behind t a steps)
settled-is t a p steps at = by (next-so a.shares a.config p a.stretches) where
  by : NextSo a.stretches (stretches_with a.shares a.config p a.stretches) → gone_ahead t (next_of p a) steps ≡ gone_settled t (begins_anew p a) (gone_behind t a steps)
  by n = by_anew n.anew n.is n.some n.parts where
    by_anew : (b : Bool) → begins_anew p a ≡ b → (b ≡ true → has_no a.stretches ≡ false) → (next_of p a).stretches ≡ (if b then (n.e ∷ []) ∷ a.stretches else (n.e ∷ newest a.stretches) ∷ earlier_of a.stretches)
        → gone_ahead t (next_of p a) steps ≡ gone_settled t (begins_anew p a) (gone_behind t a steps)
    by_anew true is some parts =
        ap (λ ns. gone_in t (before_last (newest ns)) (earlier_of ns) steps) parts ∙ begun-is t a.stretches steps at (some refl) ∙ sym (ap (λ b. gone_settled t b (gone_behind t a steps)) is)
    by_anew false is some parts =
        ap (λ ns. gone_in t (before_last (newest ns)) (earlier_of ns) steps) parts ∙ sym (ap (λ b. gone_settled t b (gone_behind t a steps)) is)

pub gones-settled : (ts : List ServiceTerms) (xs : List Airing) (p : List ℕ) (steps : List Step) → AtPacket steps → gones_ahead ts (nexts p xs) steps ≡ gones_settled ts p xs (gones_behind ts xs steps)
gones-settled [] xs p steps at = refl
gones-settled (t ∷ ts) [] p steps at = refl
gones-settled (t ∷ ts) (a ∷ xs) p steps at =
    ap (λ g. g ∷ gones_ahead ts (nexts p xs) steps) (settled-is t a p steps at) ∙ ap (λ gs. gone_settled t (begins_anew p a) (gone_behind t a steps) ∷ gs) (gones-settled ts xs p steps at)

pub puts-settled : (ts : List ServiceTerms) (xs : List Airing) (p : List ℕ) (steps : List Step) → puts_settled ts p xs (gones_behind ts xs steps) ≡ ended_before ts p xs steps
puts-settled [] xs p steps = refl
puts-settled (t ∷ ts) [] p steps = refl
puts-settled (t ∷ ts) (a ∷ xs) p steps = ap (λ l. put_settled t (begins_anew p a) (gone_behind t a steps) ++ l) (puts-settled ts xs p steps)

-- ---- it passes

not-not : (b : Bool) → not (not b) ≡ b
not-not true = refl
not-not false = refl

pub on-is : (s : AirService) (t : ServiceTerms) (a : Airing) (p : List ℕ) (steps : List Step) → IsSettled s p a → gone_on t (aired_as p (leaves a)) (gone_ahead t a steps) ≡ gone_behind t a (Packet p ∷ steps)
on-is s t a p steps h =
    ap (λ ss. gone_on t (aired_as p (leaves (record { config = a.config; stretches = ss; shares = a.shares }))) (gone_in t (before_last (newest ss)) (earlier_of ss) steps)) h.parts
    ∙ ap (λ b. (let e : Aired = record { packet = p; is_judged = b } in gone_on t e (gone_in t h.past h.earlier steps))) (not-not (is_judged h.j))
    ∙ sym (ap (λ ss. gone_in t (newest ss) (earlier_of ss) (Packet p ∷ steps)) h.parts)

pub gones-on : (ss : List AirService) (ts : List ServiceTerms) (ys : List Airing) (p : List ℕ) (steps : List Step) → AllSettled ss p ys
    → gones_on ts p ys (gones_ahead ts ys steps) ≡ gones_behind ts ys (Packet p ∷ steps)
gones-on ss [] ys p steps h = refl
gones-on ss (t ∷ ts) [] p steps h = refl
gones-on [] (t ∷ ts) (a ∷ ys) p steps h = absurd h
gones-on (s ∷ ss) (t ∷ ts) (a ∷ ys) p steps h =
    ap (λ g. g ∷ gones_on ts p ys (gones_ahead ts ys steps)) (on-is s t a p steps h.0) ∙ ap (λ gs. gone_behind t a (Packet p ∷ steps) ∷ gs) (gones-on ss ts ys p steps h.1)

pub puts-on : (ts : List ServiceTerms) (ys : List Airing) (p : List ℕ) (steps : List Step) → puts_on ts p ys (gones_ahead ts ys steps) ≡ put_by_each ts p ys steps
puts-on [] ys p steps = refl
puts-on (t ∷ ts) [] p steps = refl
puts-on (t ∷ ts) (a ∷ ys) p steps = ap (λ l. put_own (owns p a) t (aired_as p (leaves a)) (gone_ahead t a steps) ++ l) (puts-on ts ys p steps)

-- the end of a stretch changes nothing behind a packet
parts-so : (ts : List ServiceTerms) (a : Airing) (xs : List Airing) (steps : List Step) → gones_behind ts (map (parted_from a) xs) steps ≡ gones_behind ts xs steps
parts-so [] a xs steps = refl
parts-so (t ∷ ts) a [] steps = refl
parts-so (t ∷ ts) a (b ∷ xs) steps = ap (λ gs. gone_behind t b steps ∷ gs) (parts-so ts a xs steps)

parted-so : (ts : List ServiceTerms) (xs : List Airing) (steps : List Step) → gones_behind ts (parted xs) steps ≡ gones_behind ts xs steps
parted-so [] xs steps = refl
parted-so (t ∷ ts) [] steps = refl
parted-so (t ∷ ts) (a ∷ xs) steps = ap (λ gs. gone_behind t a steps ∷ gs) (parts-so ts a (parted xs) steps ∙ parted-so ts xs steps)

pub gones-parted : (ts : List ServiceTerms) (xs : List Airing) (steps : List Step) → gones_behind ts (settled xs) steps ≡ gones_behind ts xs steps
gones-parted ts xs steps = by (list_any learns xs) where
  by : (b : Bool) → gones_behind ts (if b then parted xs else xs) steps ≡ gones_behind ts xs steps
  by true = parted-so ts xs steps
  by false = refl

-- ---- at the end

pub puts-last : (ts : List ServiceTerms) (xs : List Airing) (steps : List Step) → puts_last ts (gones_behind ts xs steps) ≡ left_by_each ts xs steps
puts-last [] xs steps = refl
puts-last (t ∷ ts) [] steps = refl
puts-last (t ∷ ts) (a ∷ xs) steps = ap (λ l. put_last t (gone_behind t a steps) ++ l) (puts-last ts xs steps)

-- ---- a message

not-own : (index : ℕ) (last : List Aired) (m : MessageReading) (steps : List Step) → is_for index m ≡ false → own_since index last (Message m ∷ steps) ≡ own_since index last steps
not-own index last m steps not_so = ap (λ b. if b then Message m ∷ own_since index last steps else own_since index last steps) not_so

is-own : (index : ℕ) (last : List Aired) (m : MessageReading) (steps : List Step) → is_for index m ≡ true → own_since index last (Message m ∷ steps) ≡ Message m ∷ own_since index last steps
is-own index last m steps is_so = ap (λ b. if b then Message m ∷ own_since index last steps else own_since index last steps) is_so

others-stay : (t : ServiceTerms) (a : Airing) (m : MessageReading) (steps : List Step) → is_for t.config.index m ≡ false → gone_ahead t a (Message m ∷ steps) ≡ gone_ahead t a steps
others-stay t a m steps not_so = ap (λ own. record (gone_ahead t a steps) { own = own }) (not-own t.config.index (aired (before_last (newest a.stretches))) m steps not_so)

all-stay : (ts : List ServiceTerms) (ys : List Airing) (m : MessageReading) (steps : List Step) → one_is_for ts m ≡ false → gones_ahead ts ys (Message m ∷ steps) ≡ gones_ahead ts ys steps
all-stay [] ys m steps not_so = refl
all-stay (t ∷ ts) [] m steps not_so = refl
all-stay (t ∷ ts) (a ∷ ys) m steps not_so =
    let parts = or_parts (is_for t.config.index m) (one_is_for ts m) not_so in
    ap (λ g. g ∷ gones_ahead ts ys (Message m ∷ steps)) (others-stay t a m steps parts.0) ∙ ap (λ gs. gone_ahead t a steps ∷ gs) (all-stay ts ys m steps parts.1)

pub gones-asked : (ts : List ServiceTerms) (ys : List Airing) (m : MessageReading) (steps : List Step) → share_an_index (configs_of ts) ≡ false
    → gones_asked ts m (gones_ahead ts ys steps) ≡ gones_ahead ts ys (Message m ∷ steps)
gones-asked [] ys m steps apart = refl
gones-asked (t ∷ ts) [] m steps apart = refl
gones-asked (t ∷ ts) (a ∷ ys) m steps apart = by (is_for t.config.index m) refl (gones-asked ts ys m steps (apart_behind t ts apart)) where
  by : (b : Bool) → is_for t.config.index m ≡ b → gones_asked ts m (gones_ahead ts ys steps) ≡ gones_ahead ts ys (Message m ∷ steps)
      → gones_asked (t ∷ ts) m (gones_ahead (t ∷ ts) (a ∷ ys) steps) ≡ gones_ahead (t ∷ ts) (a ∷ ys) (Message m ∷ steps)
  by true is_so later =
      ap (λ b. if b then gone_asked m (gone_ahead t a steps) ∷ gones_ahead ts ys steps else gone_ahead t a steps ∷ gones_asked ts m (gones_ahead ts ys steps)) is_so
      ∙ ap (λ own. record (gone_ahead t a steps) { own = own } ∷ gones_ahead ts ys steps) (sym (is-own t.config.index (aired (before_last (newest a.stretches))) m steps is_so))
      ∙ ap (λ l. gone_ahead t a (Message m ∷ steps) ∷ l) (sym (all-stay ts ys m steps (only_one t ts m apart is_so)))
  by false not_so later =
      ap (λ b. if b then gone_asked m (gone_ahead t a steps) ∷ gones_ahead ts ys steps else gone_ahead t a steps ∷ gones_asked ts m (gones_ahead ts ys steps)) not_so
      ∙ ap (λ x. x ∷ gones_asked ts m (gones_ahead ts ys steps)) (sym (others-stay t a m steps not_so))
      ∙ ap (λ l. gone_ahead t a (Message m ∷ steps) ∷ l) later

pub reply-is : (ts : List ServiceTerms) (ys : List Airing) (m : MessageReading) (steps : List Step) → reply_by_gone ts (gones_ahead ts ys steps) m ≡ reply_by_each ts ys m steps
reply-is [] ys m steps = refl
reply-is (t ∷ ts) [] m steps = refl
reply-is (t ∷ ts) (a ∷ ys) m steps =
    ap (λ r. if is_for t.config.index m then reply_to t.config.index m (turns_in t.config.program (gone_ahead t a steps).own) else r) (reply-is ts ys m steps)

-- messages put nothing
own-packets : (index : ℕ) (last : List Aired) (m : MessageReading) (steps : List Step) → packets_in (own_since index last (Message m ∷ steps)) ≡ packets_in (own_since index last steps)
own-packets index last m steps = by (is_for index m) where
  by : (b : Bool) → packets_in (if b then Message m ∷ own_since index last steps else own_since index last steps) ≡ packets_in (own_since index last steps)
  by true = refl
  by false = refl

asked-ended : (ts : List ServiceTerms) (p : List ℕ) (xs : List Airing) (m : MessageReading) (steps : List Step) → ended_before ts p xs (Message m ∷ steps) ≡ ended_before ts p xs steps
asked-ended [] p xs m steps = refl
asked-ended (t ∷ ts) p [] m steps = refl
asked-ended (t ∷ ts) p (a ∷ xs) m steps =
    ap (λ l. put_of (begins_anew p a) l ++ ended_before ts p xs (Message m ∷ steps)) (own-packets t.config.index (aired (newest a.stretches)) m steps)
    ∙ ap (λ l. put_settled t (begins_anew p a) (gone_behind t a steps) ++ l) (asked-ended ts p xs m steps) where
      put_of : Bool → List (List ℕ) → List (List ℕ)
      put_of b l = if b then tail_behind (writing_cues t.config) l else []

pub all-asked-ended : (ts : List ServiceTerms) (p : List ℕ) (xs : List Airing) (ms : List (List ℕ)) (steps : List Step) → ended_before ts p xs (asked ms steps) ≡ ended_before ts p xs steps
all-asked-ended ts p xs [] steps = refl
all-asked-ended ts p xs (m ∷ ms) steps = all-asked-ended ts p xs ms (Message (message_of m) ∷ steps) ∙ asked-ended ts p xs (message_of m) steps

pub all-asked-air : (ts : List ServiceTerms) (ms : List (List ℕ)) (steps : List Step) → services_air ts (asked ms steps) ≡ services_air ts steps
all-asked-air ts [] steps = refl
all-asked-air ts (m ∷ ms) steps = all-asked-air ts ms (Message (message_of m) ∷ steps)

pub replies-at : (ts : List ServiceTerms) (p : List ℕ) (steps : List Step) → AtPacket steps → services_reply ts steps ≡ replies_ahead ts p steps
replies-at ts p [] at = refl
replies-at ts p (Message m ∷ steps) at = absurd at
replies-at ts p (Packet q ∷ steps) at = refl
