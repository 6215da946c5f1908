-- Services that were given nothing.
use Rattle.std.specs.Prelude.{OnOk, map, slice_get}
use Rattle.std.specs.List.{list_any}
use Rattle.std.proofs.lemmas.Bool.{or_from}
use Rattle.std.proofs.Common.{◌≡◌, ◌≤◌, ℕ, suc, ◌||◌, false, List, [], ◌∷◌, ◌++◌, length, Option, None, Some, Result, Ok, Err, refl, sym, ap, subst, ◌∙◌, append_assoc}
use Rattle.psi_tables.specs.declared.config.Config.{Config}
use Rattle.injector.specs.Steps.{Step}
use Rattle.ad_library.specs.Advertisements.{Advertisement}
use Rattle.ad_library.specs.declared.library.AdLibrary.{AdLibrary}
use Rattle.chain_engine.specs.Passing.{ServiceStandsFor}
use Rattle.chain_engine.specs.declared.service.Service.{Service}
use Rattle.service_laws.specs.Services.{ServiceTerms, configs_of}
use Rattle.service_laws.specs.Services.{services_send}
use Rattle.service_laws.specs.Messages.{share_an_index}
use Rattle.service_laws.specs.Faults.{meets, share_a_pid}
use Rattle.chain_engine.specs.Automation.{Exchange}
use Rattle.chain_engine.specs.Runs.{Exchanged}
use Rattle.chain_engine.proofs.RunLemmas.{begun}
use Rattle.chain_services.proofs.UnfollowedLemmas.{all-take}
use Rattle.chain_services.specs.Serving.{ServesAs, AllServe, FiledAs, HasIndexOf, services_in, reply_by}
use Rattle.chain_services.specs.Runs.{terms_by, ServicesStandFor}
use Rattle.chain_services.specs.Stages.{ServicesSend, DeskServes, configs_in, terms_in}
use Rattle.chain_services.specs.declared.services.Services.{Services}

-- ---- terms by configurations

pub record Headed (ts : List ServiceTerms) (c : Config) (cs : List Config) : Type 0 where
  pub t : ServiceTerms
  pub rest : List ServiceTerms
  pub parts : ts ≡ t ∷ rest
  pub config : t.config ≡ c
  pub configs : configs_of rest ≡ cs

pub headed : (ts : List ServiceTerms) (c : Config) (cs : List Config) → configs_of ts ≡ c ∷ cs → Headed ts c cs
headed [] c cs e = absurd (cc)
headed (t ∷ ts) c cs e = record { t = t; rest = ts; parts = refl; config = cc; configs = cc }

pub configs_by : {A : Type 0} (cs : List Config) (ls : List (AdLibrary A)) → length ls ≡ length cs → configs_of (terms_by cs ls) ≡ cs
configs_by [] ls e = refl
configs_by (c ∷ cs) [] e = absurd (cc)
configs_by (c ∷ cs) (l ∷ ls) e = let same : length ls ≡ length cs = cc in ap (λ l. c ∷ l) (configs_by cs ls same)

pub filed_by : {A : Type 0} (cs : List Config) (ls : List (AdLibrary A)) → length ls ≡ length cs → FiledAs ls (terms_by cs ls)
filed_by [] [] e = tt
filed_by [] (l ∷ ls) e = absurd (cc)
filed_by (c ∷ cs) [] e = absurd (cc)
filed_by (c ∷ cs) (l ∷ ls) e = let same : length ls ≡ length cs = cc in (refl, filed_by cs ls same)

pub terms_long : (ts : List ServiceTerms) → length ts ≡ length (configs_of ts)
terms_long [] = refl
terms_long (t ∷ ts) = ap suc (terms_long ts)

-- ---- a service more

pub begins_serving : (s : Service) (t : ServiceTerms) (c : Config) → t.config ≡ c → ((filed : ℕ → Option Advertisement) → ServiceStandsFor s c filed []) → ServesAs s t []
begins_serving s t c is stands = record { taken = []; stands = subst (λ d. ServiceStandsFor s d t.filed []) (sym is) (stands t.filed); own = refl }

one_more : (ss : List Service) (us : List ServiceTerms) (s : Service) (t : ServiceTerms) (steps : List Step) → AllServe ss us steps → ServesAs s t steps → AllServe (ss ++ s ∷ []) (us ++ t ∷ []) steps
one_more [] [] s t steps h k = (k, tt)
one_more [] (u ∷ us) s t steps h k = absurd h
one_more (x ∷ ss) [] s t steps h k = absurd h
one_more (x ∷ ss) (u ∷ us) s t steps h k = (h.0, one_more ss us s t steps h.1 k)

-- a service was added, and then the others were
pub added : {X Y : Type 0} (r : Result X Y) (before mid now : List Service) (s : Service) (c : Config) (cs configs : List Config) (us : List ServiceTerms) → configs ≡ c ∷ cs → mid ≡ before ++ s ∷ []
    → ((filed : ℕ → Option Advertisement) → ServiceStandsFor s c filed []) → AllServe before us []
    → ((vs : List ServiceTerms) → AllServe mid vs [] → OnOk r ((ts : List ServiceTerms) → configs_of ts ≡ cs → AllServe now (vs ++ ts) []))
    → OnOk r ((ts : List ServiceTerms) → configs_of ts ≡ configs → AllServe now (us ++ ts) [])
added (Err e) before mid now s c cs configs us shape is stands all goes = tt
added (Ok x) before mid now s c cs configs us shape is stands all goes = λ ts e.
    let h = headed ts c cs (e ∙ shape) in
    let more = subst (λ l. AllServe l (us ++ h.t ∷ []) []) (sym is) (one_more before us s h.t [] all (begins_serving s h.t c h.config stands)) in
    subst (λ l. AllServe now l []) (append_assoc us (h.t ∷ []) h.rest ∙ ap (λ l. us ++ l) (sym h.parts)) (goes (us ++ h.t ∷ []) more h.rest h.configs)

-- ---- the configurations of services

abbrev empty_terms : List Config → List ServiceTerms
empty_terms [] = []
empty_terms (c ∷ cs) = record { config = c; filed = λ n. None } ∷ empty_terms cs

empty_configs : (cs : List Config) → configs_of (empty_terms cs) ≡ cs
empty_configs [] = refl
empty_configs (c ∷ cs) = ap (λ l. c ∷ l) (empty_configs cs)

all_configs : (ss : List Service) (ts : List ServiceTerms) (steps : List Step) → AllServe ss ts steps → map (λ (s : Service). s.config) ss ≡ configs_of ts
all_configs [] [] steps h = refl
all_configs [] (t ∷ ts) steps h = absurd h
all_configs (s ∷ ss) [] steps h = absurd h
all_configs (s ∷ ss) (t ∷ ts) steps h = ap (λ c. c ∷ map (λ (s : Service). s.config) ss) h.0.stands.config ∙ ap (λ l. t.config ∷ l) (all_configs ss ts steps h.1)

pub configs_are : {M : Type 0} (services : Services M) (cs : List Config) → ServicesStandFor services cs → configs_in services.desk ≡ cs
configs_are services cs h = all_configs (services_in services.desk) (empty_terms cs) [] (h.serve (empty_terms cs) (empty_configs cs)) ∙ empty_configs cs

-- as many as there are services
pub as_many : (ss : List Service) → length (map (λ (s : Service). s.config) ss) ≡ length ss
as_many [] = refl
as_many (s ∷ ss) = ap suc (as_many ss)

-- no PID is known before the first packet
none_meet : (c : Config) (cs : List Config) → list_any (λ d. meets c d [] || meets d c []) cs ≡ false
none_meet c [] = refl
none_meet c (d ∷ cs) = none_meet c cs

pub none_share : (cs : List Config) → share_a_pid cs [] ≡ false
none_share [] = refl
none_share (c ∷ cs) = or_from (list_any (λ d. meets c d [] || meets d c []) cs) (share_a_pid cs []) (none_meet c cs) (none_share cs)

-- ---- a run begins

module _ {X : Type 0} (exchanges : X → List Exchange → X → Type 0) (exchanges_refl : (s : X) → exchanges s [] s)
    (exchanges_trans : (s t u : X) (xs ys : List Exchange) → exchanges s xs t → exchanges t ys u → exchanges s (xs ++ ys) u) (failures : X → ℕ) where
  pub services_begin : {M A : Type 0} (services : Services M) (cs : List Config) (libraries : List (AdLibrary A)) (x : X) → ServicesStandFor services cs
      → length libraries ≡ length (services_in services.desk)
      → ServicesSend (terms_in services.desk libraries) services.desk services.talk libraries (Exchanged exchanges failures x x) [] []
  services_begin services cs libraries x h many =
      let long : length libraries ≡ length (configs_in services.desk) = many ∙ sym (as_many (services_in services.desk)) in
      let ts = terms_in services.desk libraries in
      let are = configs_are services cs h in
      let configs : configs_of ts ≡ cs = configs_by (configs_in services.desk) libraries long ∙ are in
      record {
        filed = filed_by (configs_in services.desk) libraries long;
        indexes = subst (λ l. share_an_index l ≡ false) (sym configs) h.indexes;
        few = subst (λ n. n ≤ 8) (sym (terms_long ts ∙ ap length configs)) h.few;
        apart = none_share (configs_of ts);
        run = begun exchanges exchanges_refl exchanges_trans failures (DeskServes ts) (reply_by ts) services.desk services.talk (λ steps. services_send ts steps ≡ []) x h.talk
            (record { services = h.serve ts configs; none = h.none ts configs; counts = h.counts; owners = all-take services.desk.owners ts [] h.owners; quiet = λ e. tt }) refl;
      }

-- ---- the first configuration

pub first_index : (ts : List ServiceTerms) (configs : List Config) (c : Config) → configs_of ts ≡ configs → slice_get configs 0 ≡ Some c → HasIndexOf c.index ts
first_index [] configs c e f = let not_so : None ≡ Some c = ap (λ (l : List Config). slice_get l 0) e ∙ f in absurd (cc)
first_index (t ∷ ts) configs c e f =
    let same : Some t.config ≡ Some c = ap (λ (l : List Config). slice_get l 0) e ∙ f in
    let one : t.config ≡ c = cc in
    ap (λ (d : Config). d.index) (sym one)
