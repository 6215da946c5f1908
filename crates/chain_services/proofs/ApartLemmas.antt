-- Services that share no PID, and their network.
use Rattle.std.specs.Option.{option_or}
use Rattle.std.proofs.Common.{◌≡◌, ℕ, ◌||◌, Bool, true, false, List, [], ◌∷◌, None, Some, refl, sym, ap, subst, ◌∙◌}
use Rattle.std.specs.List.{list_any}
use Rattle.std.proofs.lemmas.Bool.{or_left}
use Rattle.ts_packet.specs.Fields.{is_among}
use Rattle.program_follower.specs.Program.{known_pids}
use Rattle.injector.specs.Steps.{Step, packets_in}
use Rattle.cued_laws.specs.Laws.{ArePacketsOfBytes}
use Rattle.chain_engine.specs.Passing.{IsSoundNetwork}
use Rattle.chain_engine.specs.declared.service.Service.{Service}
use Rattle.chain_engine.proofs.PassingLemmas.{last-sound}
use Rattle.service_laws.specs.Services.{ServiceTerms, configs_of}
use Rattle.service_laws.specs.Faults.{meets, share_a_pid, services_fault}
use Rattle.chain_services.specs.Serving.{ServesAs, AllServe, HasIndexOf}
use Rattle.chain_services.specs.Parts.{KnowsSame, AllKnowSame}
use Rattle.chain_services.proofs.PartLemmas.{taken_packets}

-- ---- the network

-- a packet that went through all services was without fault for each
pub sound_at : (ss : List Service) (ts : List ServiceTerms) (steps : List Step) (p : List ℕ) (past : List (List ℕ)) → AllServe ss ts steps → packets_in steps ≡ p ∷ past
    → services_fault (configs_of ts) p past ≡ None
sound_at [] [] steps p past h e = refl
sound_at [] (t ∷ ts) steps p past h e = absurd h
sound_at (s ∷ ss) [] steps p past h e = absurd h
sound_at (s ∷ ss) (t ∷ ts) steps p past h e =
    let one = last-sound t.config p past (subst (IsSoundNetwork t.config) (taken_packets s t steps h.0 ∙ e) h.0.stands.network) in
    ap (λ o. option_or o (services_fault (configs_of ts) p past)) one ∙ sound_at ss ts steps p past h.1 e

-- and all packets are of bytes
pub all_bytes : (ss : List Service) (ts : List ServiceTerms) (steps : List Step) (index : ℕ) → HasIndexOf index ts → AllServe ss ts steps → ArePacketsOfBytes (packets_in steps)
all_bytes ss [] steps index first h = absurd first
all_bytes [] (t ∷ ts) steps index first h = absurd h
all_bytes (s ∷ ss) (t ∷ ts) steps index first h = (subst (IsSoundNetwork t.config) (taken_packets s t steps h.0) h.0.stands.network).bytes

-- ---- where no PID more is known

meets_same : (t u : ServiceTerms) (p : List ℕ) (past : List (List ℕ)) → KnowsSame t p past → KnowsSame u p past → meets t.config u.config (p ∷ past) ≡ meets t.config u.config past
meets_same t u p past h k =
    ap (λ l. list_any (λ pid. is_among pid (u.config.cue_pid ∷ known_pids (Some u.config.program) (p ∷ past))) l) h
    ∙ ap (λ l. list_any (λ pid. is_among pid (u.config.cue_pid ∷ l)) (known_pids (Some t.config.program) past)) k

one_same : (t : ServiceTerms) (ts : List ServiceTerms) (p : List ℕ) (past : List (List ℕ)) → KnowsSame t p past → AllKnowSame ts p past
    → list_any (λ d. meets t.config d (p ∷ past) || meets d t.config (p ∷ past)) (configs_of ts) ≡ list_any (λ d. meets t.config d past || meets d t.config past) (configs_of ts)
one_same t [] p past h k = refl
one_same t (u ∷ ts) p past h k =
    let there = meets_same t u p past h k.0 in
    let back = meets_same u t p past k.0 h in
    let rest = one_same t ts p past h k.1 in
    ap (λ b. (b || meets u.config t.config (p ∷ past)) || list_any (λ d. meets t.config d (p ∷ past) || meets d t.config (p ∷ past)) (configs_of ts)) there
    ∙ ap (λ b. (meets t.config u.config past || b) || list_any (λ d. meets t.config d (p ∷ past) || meets d t.config (p ∷ past)) (configs_of ts)) back
    ∙ ap (λ b. (meets t.config u.config past || meets u.config t.config past) || b) rest

pub share_same : (ts : List ServiceTerms) (p : List ℕ) (past : List (List ℕ)) → AllKnowSame ts p past → share_a_pid (configs_of ts) (p ∷ past) ≡ share_a_pid (configs_of ts) past
share_same [] p past k = refl
share_same (t ∷ ts) p past k =
    ap (λ b. b || share_a_pid (configs_of ts) (p ∷ past)) (one_same t ts p past k.0 k.1)
    ∙ ap (λ b. list_any (λ d. meets t.config d past || meets d t.config past) (configs_of ts) || b) (share_same ts p past k.1)

-- ---- what the code asks

pub record Split (s : Service) (ss : List Service) (ts : List ServiceTerms) (steps : List Step) : Type 0 where
  pub t : ServiceTerms
  pub rest : List ServiceTerms
  pub parts : ts ≡ t ∷ rest
  pub serves : ServesAs s t steps
  pub serve_rest : AllServe ss rest steps

pub split : (services : List Service) (s : Service) (ss : List Service) (ts : List ServiceTerms) (steps : List Step) → services ≡ s ∷ ss → AllServe services ts steps → Split s ss ts steps
split services s ss [] steps shape all = absurd (subst (λ w. AllServe w [] steps) shape all)
split services s ss (t ∷ ts) steps shape all = let h = subst (λ w. AllServe w (t ∷ ts) steps) shape all in record { t = t; rest = ts; parts = refl; serves = h.0; serve_rest = h.1 }

abbrev pub shares_one : ServiceTerms → List (List ℕ) → List ServiceTerms → Bool
shares_one t past ts = list_any (λ d. meets t.config d past || meets d t.config past) (configs_of ts)

-- the first shares one, or one behind it
pub shares_here : (t u : ServiceTerms) (ts rest : List ServiceTerms) (past : List (List ℕ)) (b : Bool) → ts ≡ u ∷ rest → b ≡ (meets t.config u.config past || meets u.config t.config past) → b ≡ true
    → true ≡ shares_one t past ts
shares_here t u ts rest past b parts is y =
    sym (ap (shares_one t past) parts ∙ or_left (meets t.config u.config past || meets u.config t.config past) (shares_one t past rest) (sym is ∙ y))

pub shares_later : (t u : ServiceTerms) (ts rest : List ServiceTerms) (past : List (List ℕ)) (b later : Bool) → ts ≡ u ∷ rest → b ≡ (meets t.config u.config past || meets u.config t.config past) → b ≡ false
    → later ≡ shares_one t past rest → later ≡ shares_one t past ts
shares_later t u ts rest past b later parts is n told =
    told ∙ sym (ap (shares_one t past) parts ∙ ap (λ a. a || shares_one t past rest) (sym is ∙ n))

pub share_here : (t : ServiceTerms) (ts rest : List ServiceTerms) (past : List (List ℕ)) (b : Bool) → ts ≡ t ∷ rest → b ≡ shares_one t past rest → b ≡ true → true ≡ share_a_pid (configs_of ts) past
share_here t ts rest past b parts is y =
    sym (ap (λ us. share_a_pid (configs_of us) past) parts ∙ or_left (shares_one t past rest) (share_a_pid (configs_of rest) past) (sym is ∙ y))

pub share_later : (t : ServiceTerms) (ts rest : List ServiceTerms) (past : List (List ℕ)) (b later : Bool) → ts ≡ t ∷ rest → b ≡ shares_one t past rest → b ≡ false
    → later ≡ share_a_pid (configs_of rest) past → later ≡ share_a_pid (configs_of ts) past
share_later t ts rest past b later parts is n told =
    told ∙ sym (ap (λ us. share_a_pid (configs_of us) past) parts ∙ ap (λ a. a || share_a_pid (configs_of rest) past) (sym is ∙ n))
