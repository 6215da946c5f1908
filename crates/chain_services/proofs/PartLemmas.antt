-- What each service adds to the output for a packet, together.
use Rattle.std.proofs.Common.{◌≡◌, ℕ, ◌||◌, ◌==◌, not, Bool, true, false, List, [], ◌∷◌, ◌++◌, None, Some, length, refl, sym, ap, subst, ◌∙◌, append_assoc}
use Rattle.std.specs.Prelude.{if◌then◌else◌}
use Rattle.std.specs.Option.{option_or}
use Rattle.std.specs.List.{list_any}
use Rattle.std.proofs.lemmas.Bool.{or_parts, not-false, eqb-true}
use Rattle.std.proofs.lemmas.List.{append-nil}
use Rattle.ts_packet.proofs.Cases.{by_test}
use Rattle.ts_packet.specs.Fields.{is_among}
use Rattle.ts_packet.specs.declared.sink.PutFault.{PutFault}
use Rattle.psi_tables.specs.declared.network.FeedFault.{FeedFault}
use Rattle.psi_tables.specs.declared.network.FeedFault.TheVariants.{Network, Sink, Failed}
use Rattle.program_follower.specs.Program.{known_pids}
use Rattle.program_follower.proofs.PidLemmas.{known_pids_same}
use Rattle.program_follower.specs.Faults.{network_fault}
use Rattle.program_follower.specs.Purposes.{writing_cues}
use Rattle.outgoing_packets.specs.Numbers.{FrontFails}
use Rattle.injector.specs.Steps.{Step, Packet, packets_in}
use Rattle.chain_engine.specs.Passing.{ServiceStandsFor, IsSoundNetwork, PassFails, chain_at}
use Rattle.chain_engine.specs.declared.service.Service.{Service}
use Rattle.chain_engine.proofs.PassingLemmas.{last-sound}
use Rattle.service_laws.specs.Messages.{own_steps}
use Rattle.service_laws.specs.Services.{ServiceTerms, configs_of, given_at}
use Rattle.service_laws.specs.Faults.{meets, share_a_pid, services_fault}
use Rattle.service_laws.proofs.MessageLemmas.{own_packets, own_chain}
use Rattle.service_laws.proofs.PidLemmas.{one-apart, within-one-more}
use Rattle.ad_library.specs.declared.library.AdLibrary.{AdLibrary}
use Rattle.ad_library.specs.Library.{held}
use Rattle.chain_services.specs.Serving.{ServesAs, AllServe, FiledAs}
use Rattle.chain_services.specs.Parts.{owns, one_owns, part_of, parts_of, KnowsSame, FailedOn, FailedOne, PassedOne, PassedEach, FailedEach}

-- ---- one service

-- all packets have come to it
pub taken_packets : (s : Service) (t : ServiceTerms) (steps : List Step) → (h : ServesAs s t steps) → packets_in h.taken ≡ packets_in steps
taken_packets s t steps h = sym (own_packets t.config.index h.taken) ∙ ap packets_in h.own ∙ own_packets t.config.index steps

pub taken_chain : (s : Service) (t : ServiceTerms) (p : List ℕ) (steps : List Step) → (h : ServesAs s t steps)
    → chain_at t.config t.filed p h.taken ≡ chain_at t.config t.filed p (own_steps t.config.index steps)
taken_chain s t p steps h = sym (own_chain t.config t.filed p h.taken) ∙ ap (chain_at t.config t.filed p) h.own

pub serves_packet : (s s' : Service) (t : ServiceTerms) (p : List ℕ) (steps : List Step) → (h : ServesAs s t steps) → ServiceStandsFor s' t.config t.filed (Packet p ∷ h.taken)
    → ServesAs s' t (Packet p ∷ steps)
serves_packet s s' t p steps h stands = record { taken = Packet p ∷ h.taken; stands = stands; own = ap (λ l. Packet p ∷ l) h.own }

-- the packet was without fault for it
pub none_at : (s : Service) (t : ServiceTerms) (p : List ℕ) (steps : List Step) → ServesAs s t (Packet p ∷ steps) → network_fault (writing_cues t.config) p (packets_in steps) ≡ None
none_at s t p steps h = last-sound t.config p (packets_in steps) (subst (IsSoundNetwork t.config) (taken_packets s t (Packet p ∷ steps) h) h.stands.network)

-- ---- PIDs

-- a packet on a PID of one is on none of another, where they do not meet
not_both : (t u : ServiceTerms) (p : List ℕ) (past : List (List ℕ)) → meets t.config u.config past ≡ false → owns t p past ≡ true → owns u p past ≡ false
not_both t u p past apart y =
    let theirs = known_pids (Some u.config.program) past in
    one-apart (λ a. is_among a (u.config.cue_pid ∷ theirs)) (known_pids (Some t.config.program) past) theirs (within-one-more u.config.cue_pid theirs) apart p y

none_own : (t : ServiceTerms) (ts : List ServiceTerms) (p : List ℕ) (steps : List Step)
    → list_any (λ d. meets t.config d (packets_in steps) || meets d t.config (packets_in steps)) (configs_of ts) ≡ false → owns t p (packets_in steps) ≡ true
    → parts_of ts p steps ≡ []
none_own t [] p steps apart y = refl
none_own t (u ∷ ts) p steps apart y =
    let past = packets_in steps in
    let parts = or_parts (meets t.config u.config past || meets u.config t.config past) (list_any (λ d. meets t.config d past || meets d t.config past) (configs_of ts)) apart in
    let n = not_both t u p past (or_parts (meets t.config u.config past) (meets u.config t.config past) parts.0).0 y in
    ap (λ b. (if b then chain_at u.config u.filed p (own_steps u.config.index steps) else []) ++ parts_of ts p steps) n ∙ none_own t ts p steps parts.1 y

-- where none owns it, none adds anything
pub none_adds : (ts : List ServiceTerms) (p : List ℕ) (steps : List Step) → one_owns ts p (packets_in steps) ≡ false → parts_of ts p steps ≡ []
none_adds [] p steps n = refl
none_adds (t ∷ ts) p steps n =
    let parts = or_parts (owns t p (packets_in steps)) (one_owns ts p (packets_in steps)) n in
    ap (λ b. (if b then chain_at t.config t.filed p (own_steps t.config.index steps) else []) ++ parts_of ts p steps) parts.0 ∙ none_adds ts p steps parts.1

-- WHAT STANDS FOR A PACKET is what its service adds, or the packet alone
pub given_parts : (ts : List ServiceTerms) (p : List ℕ) (steps : List Step) → share_a_pid (configs_of ts) (packets_in steps) ≡ false
    → given_at ts p steps ≡ (if one_owns ts p (packets_in steps) then parts_of ts p steps else p ∷ [])
given_parts [] p steps apart = refl
given_parts (t ∷ ts) p steps apart =
    let past = packets_in steps in
    let own = chain_at t.config t.filed p (own_steps t.config.index steps) in
    let parts = or_parts (list_any (λ d. meets t.config d past || meets d t.config past) (configs_of ts)) (share_a_pid (configs_of ts) past) apart in
    by_test (owns t p past)
    (λ y. ap (λ b. if b then own else given_at ts p steps) y
    ∙ sym (append-nil own)
    ∙ ap (λ l. own ++ l) (sym (none_own t ts p steps parts.0 y))
    ∙ sym (ap (λ b. if b || one_owns ts p past then (if b then own else []) ++ parts_of ts p steps else p ∷ []) y))
    (λ n. ap (λ b. if b then own else given_at ts p steps) n
    ∙ given_parts ts p steps parts.1
    ∙ sym (ap (λ b. if b || one_owns ts p past then (if b then own else []) ++ parts_of ts p steps else p ∷ []) n))

-- ---- faults

pub all_sound : (ss : List Service) (ts : List ServiceTerms) (p : List ℕ) (steps : List Step) → AllServe ss ts (Packet p ∷ steps) → services_fault (configs_of ts) p (packets_in steps) ≡ None
all_sound [] [] p steps h = refl
all_sound [] (t ∷ ts) p steps h = absurd h
all_sound (s ∷ ss) [] p steps h = absurd h
all_sound (s ∷ ss) (t ∷ ts) p steps h =
    ap (λ o. option_or o (services_fault (configs_of ts) p (packets_in steps))) (none_at s t p steps h.0) ∙ all_sound ss ts p steps h.1

module _ (t : ServiceTerms) (ts : List ServiceTerms) (p : List ℕ) (steps : List Step) (is_out : List (List ℕ) → Type 0) (fails : List (List ℕ) → List ℕ → PutFault → Type 0) where
  -- the first of them failed
  pub first_failed : (f : FeedFault) → FailedOne f t p steps is_out fails → FailedEach f (t ∷ ts) p steps (parts_of (t ∷ ts) p steps) is_out fails
  first_failed (Network f) h = (
    ap (λ o. option_or o (services_fault (configs_of ts) p (packets_in steps))) h.0,
    record { front = []; left = parts_of (t ∷ ts) p steps; all = refl; out = h.1 },
  )
  first_failed (Sink x) h = record {
    put = h.put;
    packet = h.packet;
    left = h.left ++ parts_of ts p steps;
    all = ap (λ l. l ++ parts_of ts p steps) h.all ∙ append_assoc h.put (h.packet ∷ h.left) (parts_of ts p steps);
    fault = h.fault;
  }
  first_failed Failed h = absurd h

-- or one behind it
module _ (t : ServiceTerms) (ts : List ServiceTerms) (p : List ℕ) (steps : List Step) (is_out : List (List ℕ) → Type 0) (fails : List (List ℕ) → List ℕ → PutFault → Type 0) where
  pub later_failed : (f : FeedFault) → network_fault (writing_cues t.config) p (packets_in steps) ≡ None
      → FailedEach f ts p steps (parts_of ts p steps) (λ l. is_out (part_of t p steps ++ l)) (λ put q x. fails (part_of t p steps ++ put) q x)
      → FailedEach f (t ∷ ts) p steps (parts_of (t ∷ ts) p steps) is_out fails
  later_failed (Network f) none h = (
    ap (λ o. option_or o (services_fault (configs_of ts) p (packets_in steps))) none ∙ h.0,
    record {
      front = part_of t p steps ++ h.1.front;
      left = h.1.left;
      all = ap (λ l. part_of t p steps ++ l) h.1.all ∙ sym (append_assoc (part_of t p steps) h.1.front h.1.left);
      out = h.1.out;
    },
  )
  later_failed (Sink x) none h = record {
    put = part_of t p steps ++ h.put;
    packet = h.packet;
    left = h.left;
    all = ap (λ l. part_of t p steps ++ l) h.all ∙ sym (append_assoc (part_of t p steps) h.put (h.packet ∷ h.left));
    fault = h.fault;
  }
  later_failed Failed none h = absurd h

empty_front : (front left : List (List ℕ)) → [] ≡ front ++ left → front ≡ []
empty_front [] left e = refl
empty_front (x ∷ front) left e = absurd (cc)

no_front : (put : List (List ℕ)) (q : List ℕ) (left : List (List ℕ)) → [] ≡ put ++ q ∷ left → ⊥
no_front [] q left e = cc
no_front (x ∷ put) q left e = cc

-- what failed of the parts failed of what stands for the packet
pub given_failed : (f : FeedFault) (ts : List ServiceTerms) (p : List ℕ) (steps : List Step) (is_out : List (List ℕ) → Type 0) (fails : List (List ℕ) → List ℕ → PutFault → Type 0)
    → share_a_pid (configs_of ts) (packets_in steps) ≡ false → FailedEach f ts p steps (parts_of ts p steps) is_out fails → FailedEach f ts p steps (given_at ts p steps) is_out fails
given_failed f ts p steps is_out fails apart h = by_test (one_owns ts p (packets_in steps))
    (λ y. subst (λ l. FailedEach f ts p steps l is_out fails) (sym (given_parts ts p steps apart ∙ ap (λ b. if b then parts_of ts p steps else p ∷ []) y)) h)
    (λ n. none f (subst (λ l. FailedEach f ts p steps l is_out fails) (none_adds ts p steps n) h) n)
  where
    none : (f : FeedFault) → FailedEach f ts p steps [] is_out fails → one_owns ts p (packets_in steps) ≡ false → FailedEach f ts p steps (given_at ts p steps) is_out fails
    none (Network x) k n = (
      k.0,
      record {
        front = [];
        left = given_at ts p steps;
        all = refl;
        out = subst is_out (empty_front k.1.front k.1.left k.1.all) k.1.out;
      },
    )
    none (Sink x) k n = absurd (no_front k.put k.packet k.left k.all)
    none Failed k n = absurd k

-- what a service's chain did with all that it has taken it did with its own
pub failed_on : (s : Service) (t : ServiceTerms) (p : List ℕ) (steps : List Step) (h : ServesAs s t steps) (is_out : List (List ℕ) → Type 0) (fails : List (List ℕ) → List ℕ → PutFault → Type 0)
    (f : FeedFault) (before : Type 0) → (before → is_out []) → PassFails f t.config t.filed p h.taken before fails → FailedOn f t p steps is_out fails
failed_on s t p steps h is_out fails (Network f) before so k = (ap (network_fault (writing_cues t.config) p) (sym (taken_packets s t steps h)) ∙ k.0, so k.1)
failed_on s t p steps h is_out fails (Sink x) before so k = subst (λ l. FrontFails l (λ put q. fails put q x)) (taken_chain s t p steps h) k
failed_on s t p steps h is_out fails Failed before so k = absurd k

-- as many PIDs are the same
pub knows_same : (s : Service) (t : ServiceTerms) (p : List ℕ) (steps : List Step) (h : ServesAs s t steps)
    → length (known_pids (Some t.config.program) (p ∷ packets_in h.taken)) ≡ length (known_pids (Some t.config.program) (packets_in h.taken)) → KnowsSame t p (packets_in steps)
knows_same s t p steps h e =
    subst (KnowsSame t p) (taken_packets s t steps h) (known_pids_same (Some t.config.program) p (packets_in h.taken) e)

-- a packet of its own goes out as its chain sends it
pub own_out : (t : ServiceTerms) (p : List ℕ) (steps : List Step) (is_out : List (List ℕ) → Type 0) → owns t p (packets_in steps) ≡ true
    → is_out (chain_at t.config t.filed p (own_steps t.config.index steps)) → is_out (part_of t p steps)
own_out t p steps is_out y o = subst is_out (sym (ap (λ b. if b then chain_at t.config t.filed p (own_steps t.config.index steps) else []) y)) o

pub other_out : (t : ServiceTerms) (p : List ℕ) (steps : List Step) (is_out : List (List ℕ) → Type 0) → owns t p (packets_in steps) ≡ false → is_out [] → is_out (part_of t p steps)
other_out t p steps is_out n o = subst is_out (sym (ap (λ b. if b then chain_at t.config t.filed p (own_steps t.config.index steps) else []) n)) o

pub own_failed : (f : FeedFault) (t : ServiceTerms) (p : List ℕ) (steps : List Step) (is_out : List (List ℕ) → Type 0) (fails : List (List ℕ) → List ℕ → PutFault → Type 0)
    → owns t p (packets_in steps) ≡ true → FailedOn f t p steps is_out fails → FailedOne f t p steps is_out fails
own_failed (Network f) t p steps is_out fails y h = h
own_failed (Sink x) t p steps is_out fails y h = subst (λ l. FrontFails l (λ put q. fails put q x)) (sym (ap (λ b. if b then chain_at t.config t.filed p (own_steps t.config.index steps) else []) y)) h
own_failed Failed t p steps is_out fails y h = absurd h

-- one that takes everything does not fail
pub other_failed : (f : FeedFault) (t : ServiceTerms) (p : List ℕ) (steps : List Step) (is_out is_out' : List (List ℕ) → Type 0) (fails : List (List ℕ) → List ℕ → PutFault → Type 0)
    → is_out' [] → FailedOn f t p steps is_out (λ put q x. ⊥) → FailedOne f t p steps is_out' fails
other_failed (Network f) t p steps is_out is_out' fails o h = (h.0, o)
other_failed (Sink x) t p steps is_out is_out' fails o h = absurd h.fault
other_failed Failed t p steps is_out is_out' fails o h = absurd h

-- two numbers of which none is told apart are the same
pub not_apart : (m n : ℕ) → not (m == n) ≡ false → m ≡ n
not_apart m n e = eqb-true m n (not-false (m == n) e)

-- ---- the first of some services and those behind it

pub record Parted {A : Type 0} (s : Service) (ss : List Service) (l : AdLibrary A) (ls : List (AdLibrary A)) (ts : List ServiceTerms) (steps : List Step) : Type 0 where
  pub t : ServiceTerms
  pub rest : List ServiceTerms
  pub parts : ts ≡ t ∷ rest
  pub filed : held l ≡ t.filed
  pub filed_rest : FiledAs ls rest
  pub serves : ServesAs s t steps
  pub serve_rest : AllServe ss rest steps

pub parted : {A : Type 0} (services : List Service) (libraries : List (AdLibrary A)) (s : Service) (ss : List Service) (l : AdLibrary A) (ls : List (AdLibrary A)) (ts : List ServiceTerms) (steps : List Step)
    → services ≡ s ∷ ss → libraries ≡ l ∷ ls → FiledAs libraries ts → AllServe services ts steps → Parted s ss l ls ts steps
parted services libraries s ss l ls [] steps shape long filed all = absurd (subst (λ w. AllServe w [] steps) shape all)
parted services libraries s ss l ls (t ∷ ts) steps shape long filed all =
    let f = subst (λ w. FiledAs w (t ∷ ts)) long filed in
    let h = subst (λ w. AllServe w (t ∷ ts) steps) shape all in
    record { t = t; rest = ts; parts = refl; filed = f.0; filed_rest = f.1; serves = h.0; serve_rest = h.1 }

pub each_more : (own1 own2 learns1 learns2 : Bool) (s : Service) (ss : List Service) (t : ServiceTerms) (ts : List ServiceTerms) (p : List ℕ) (steps : List Step)
    (one_out is_out : List (List ℕ) → Type 0) (before : List (List ℕ)) → PassedOne own1 learns1 s t p steps one_out
    → PassedEach own2 learns2 ss ts p steps (λ l. is_out ((before ++ part_of t p steps) ++ l))
    → PassedEach (own1 || own2) (learns1 || learns2) (s ∷ ss) (t ∷ ts) p steps (λ l. is_out (before ++ l))
each_more own1 own2 learns1 learns2 s ss t ts p steps one_out is_out before one more = record {
  owns_it = ap (λ b. b || own2) one.owns_it ∙ ap (λ b. owns t p (packets_in steps) || b) more.owns_it;
  still = λ n. let parts = or_parts learns1 learns2 n in (one.still parts.0, more.still parts.1);
  serve = (one.serves, more.serve);
  out = subst is_out (append_assoc before (part_of t p steps) (parts_of ts p steps)) more.out;
}

-- what was out before may be told with it
pub failed_so : (f : FeedFault) (ts : List ServiceTerms) (p : List ℕ) (steps : List Step) (sent : List (List ℕ)) (is_out is_out' : List (List ℕ) → Type 0) (fails fails' : List (List ℕ) → List ℕ → PutFault → Type 0)
    → ((l : List (List ℕ)) → is_out l → is_out' l) → ((put : List (List ℕ)) (q : List ℕ) (x : PutFault) → fails put q x → fails' put q x)
    → FailedEach f ts p steps sent is_out fails → FailedEach f ts p steps sent is_out' fails'
failed_so (Network f) ts p steps sent is_out is_out' fails fails' so fso h = (h.0, record { front = h.1.front; left = h.1.left; all = h.1.all; out = so h.1.front h.1.out })
failed_so (Sink x) ts p steps sent is_out is_out' fails fails' so fso h = record { put = h.put; packet = h.packet; left = h.left; all = h.all; fault = fso h.put h.packet x h.fault }
failed_so Failed ts p steps sent is_out is_out' fails fails' so fso h = absurd h

-- the same of the services that came in this order
module _ (own learns own1 own2 learns1 learns2 : Bool) (own_so : own ≡ (own1 || own2)) (learns_so : learns ≡ (learns1 || learns2)) (s : Service) (ss : List Service) (ts : List ServiceTerms) (t : ServiceTerms)
    (rest : List ServiceTerms) (parts : ts ≡ t ∷ rest) (p : List ℕ) (steps : List Step) where
  pub each_joined : (one_out is_out : List (List ℕ) → Type 0) (before : List (List ℕ)) → PassedOne own1 learns1 s t p steps one_out
      → PassedEach own2 learns2 ss rest p steps (λ l. is_out ((before ++ part_of t p steps) ++ l)) → PassedEach own learns (s ∷ ss) ts p steps (λ l. is_out (before ++ l))
  each_joined one_out is_out before one more =
      subst (λ us. PassedEach own learns (s ∷ ss) us p steps (λ l. is_out (before ++ l))) (sym parts)
      (subst (λ b. PassedEach b learns (s ∷ ss) (t ∷ rest) p steps (λ l. is_out (before ++ l))) (sym own_so)
      (subst (λ b. PassedEach (own1 || own2) b (s ∷ ss) (t ∷ rest) p steps (λ l. is_out (before ++ l))) (sym learns_so) (each_more own1 own2 learns1 learns2 s ss t rest p steps one_out is_out before one more)))

module _ (f : FeedFault) (ts : List ServiceTerms) (t : ServiceTerms) (rest : List ServiceTerms) (parts : ts ≡ t ∷ rest) (p : List ℕ) (steps : List Step) (is_out : List (List ℕ) → Type 0)
    (fails : List (List ℕ) → List ℕ → PutFault → Type 0) where
  pub first_of_failed : FailedOne f t p steps is_out fails → FailedEach f ts p steps (parts_of ts p steps) is_out fails
  first_of_failed h = subst (λ us. FailedEach f us p steps (parts_of us p steps) is_out fails) (sym parts) (first_failed t rest p steps is_out fails f h)

  pub later_of_failed : (s : Service) → ServesAs s t (Packet p ∷ steps) → FailedEach f rest p steps (parts_of rest p steps) (λ l. is_out (part_of t p steps ++ l)) (λ put q x. fails (part_of t p steps ++ put) q x)
      → FailedEach f ts p steps (parts_of ts p steps) is_out fails
  later_of_failed s serves h =
      subst (λ us. FailedEach f us p steps (parts_of us p steps) is_out fails) (sym parts) (later_failed t rest p steps is_out fails f (none_at s t p steps serves) h)

-- what stands behind a part stands behind what was there before it
pub behind_part : (f : FeedFault) (ts : List ServiceTerms) (p : List ℕ) (steps : List Step) (sent before part : List (List ℕ)) (is_out : List (List ℕ) → Type 0) (fails : List (List ℕ) → List ℕ → PutFault → Type 0)
    → FailedEach f ts p steps sent (λ l. is_out ((before ++ part) ++ l)) (λ put q x. fails ((before ++ part) ++ put) q x)
    → FailedEach f ts p steps sent (λ l. is_out (before ++ (part ++ l))) (λ put q x. fails (before ++ (part ++ put)) q x)
behind_part f ts p steps sent before part is_out fails h =
    failed_so f ts p steps sent _ _ _ _ (λ l o. subst is_out (append_assoc before part l) o) (λ put q x o. subst (λ l. fails l q x) (append_assoc before part put) o) h
