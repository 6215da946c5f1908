-- Several services, one after another: how far each has come.
use Rattle.std.proofs.Common.{◌≡◌, ℕ, ◌+◌, ◌==◌, List, [], ◌∷◌, ◌++◌, Bool, true, false, Option, None, Some, refl, sym, ap, subst, ◌∙◌, arith, append_assoc}
use Rattle.std.specs.Prelude.{if◌then◌else◌, Result, OnOk}
use Rattle.std.proofs.lemmas.Result.{on_ok_weaker}
use Rattle.std.proofs.lemmas.Bool.{or_parts, or_from, or_left, or_right}
use Rattle.psi_section.specs.Assembling.{capped}
use Rattle.psi_tables.specs.declared.config.Config.{Config}
use Rattle.scte104_codec.specs.Reading.{MessageReading}
use Rattle.scte104_codec.specs.declared.reply.Reply.{Reply}
use Rattle.injector.specs.Replies.{reply_to}
use Rattle.injector.specs.Requests.{RequestsStandFor}
use Rattle.injector.specs.Turns.{Turn, Judged}
use Rattle.injector.specs.declared.requests.Requests.{Requests}
use Rattle.injector.specs.Steps.{turns_in}
use Rattle.ad_library.specs.declared.library.AdLibrary.{AdLibrary}
use Rattle.ad_library.specs.Library.{held}
use Rattle.service_laws.specs.Messages.{is_for, reply_of_none}
use Rattle.service_laws.specs.Services.{ServiceTerms, configs_of}
use Rattle.chain_services.proofs.ServingLemmas.{answers_none}
use Rattle.chain_services.specs.Serving.{FiledAs, AnswersNone}
use Rattle.chain_services.specs.declared.report.ServiceEvents.{ServiceEvents}
use Rattle.services_on_air.specs.Histories.{Gone, HasGone, nothing_gone, gone_asked}
use Rattle.services_on_air.specs.Outputs.{lost_among, EventsOnAir}
use Rattle.services_on_air.specs.Serving.{AllGone, nothings_gone, gones_asked, reply_by_gone, one_is_for, AskedOnAir, AddsOnAir}
use Rattle.services_on_air.specs.declared.service.AirService.{AirService}

-- ---- the first of them and the others

pub record GoneOf (s : AirService) (ss : List AirService) (ts : List ServiceTerms) (gs : List Gone) : Type 0 where
  pub t : ServiceTerms
  pub more : List ServiceTerms
  pub g : Gone
  pub later : List Gone
  pub terms : ts ≡ t ∷ more
  pub gones : gs ≡ g ∷ later
  pub first : HasGone s t g
  pub others : AllGone ss more later

pub gone-of : (l : List AirService) (s : AirService) (ss : List AirService) (ts : List ServiceTerms) (gs : List Gone) → l ≡ s ∷ ss → AllGone l ts gs → GoneOf s ss ts gs
gone-of l s ss ts gs e h = by ts gs (subst (λ k. AllGone k ts gs) e h) where
  by : (us : List ServiceTerms) (hs : List Gone) → AllGone (s ∷ ss) us hs → GoneOf s ss us hs
  by [] hs k = absurd k
  by (t ∷ more) [] k = absurd k
  by (t ∷ more) (g ∷ later) k = record { t = t; more = more; g = g; later = later; terms = refl; gones = refl; first = k.0; others = k.1 }

-- there is none
pub record NoneGone (ts : List ServiceTerms) (gs : List Gone) : Type 0 where
  pub terms : ts ≡ []
  pub gones : gs ≡ []

pub none-gone : (l : List AirService) (ts : List ServiceTerms) (gs : List Gone) → l ≡ [] → AllGone l ts gs → NoneGone ts gs
none-gone l ts gs e h = by ts gs (subst (λ k. AllGone k ts gs) e h) where
  by : (us : List ServiceTerms) (hs : List Gone) → AllGone [] us hs → NoneGone us hs
  by [] [] k = record { terms = refl; gones = refl }
  by [] (g ∷ later) k = absurd k
  by (t ∷ more) hs k = absurd k

-- the first library is that of the first service
pub record FiledOf {A : Type 0} (l : AdLibrary A) (ls : List (AdLibrary A)) (t : ServiceTerms) (ts : List ServiceTerms) : Type 0 where
  pub first : held l ≡ t.filed
  pub others : FiledAs ls ts

pub filed-of : {A : Type 0} (libraries : List (AdLibrary A)) (l : AdLibrary A) (ls : List (AdLibrary A)) (ts : List ServiceTerms) (t : ServiceTerms) (more : List ServiceTerms) → libraries ≡ l ∷ ls → ts ≡ t ∷ more
    → FiledAs libraries ts → FiledOf l ls t more
filed-of {A} libraries l ls ts t more e f h =
    let k = subst (λ (w : List (AdLibrary A)). FiledAs w (t ∷ more)) e (subst (FiledAs libraries) f h) in record { first = k.0; others = k.1 }

pub none-filed : {A : Type 0} (libraries : List (AdLibrary A)) (ts : List ServiceTerms) (t : ServiceTerms) (more : List ServiceTerms) → libraries ≡ [] → ts ≡ t ∷ more → FiledAs libraries ts → ⊥
none-filed {A} libraries ts t more e f h = subst (λ (w : List (AdLibrary A)). FiledAs w (t ∷ more)) e (subst (FiledAs libraries) f h)

-- they are made into all again
pub all-of : (s : AirService) (ss : List AirService) (ts : List ServiceTerms) (gs : List Gone) (t : ServiceTerms) (more : List ServiceTerms) (g : Gone) (later : List Gone) → ts ≡ t ∷ more → gs ≡ g ∷ later
    → HasGone s t g → AllGone ss more later → AllGone (s ∷ ss) ts gs
all-of s ss ts gs t more g later e f h k = subst (λ w. AllGone (s ∷ ss) w gs) (sym e) (subst (AllGone (s ∷ ss) (t ∷ more)) (sym f) (h, k))

-- one more
pub one-more-gone : (ss : List AirService) (ts : List ServiceTerms) (gs : List Gone) (s : AirService) (t : ServiceTerms) (g : Gone) → AllGone ss ts gs → HasGone s t g
    → AllGone (ss ++ s ∷ []) (ts ++ t ∷ []) (gs ++ g ∷ [])
one-more-gone [] [] [] s t g h k = (k, tt)
one-more-gone [] [] (x ∷ gs) s t g h k = absurd h
one-more-gone [] (y ∷ ts) gs s t g h k = absurd h
one-more-gone (z ∷ ss) [] gs s t g h k = absurd h
one-more-gone (z ∷ ss) (y ∷ ts) [] s t g h k = absurd h
one-more-gone (z ∷ ss) (y ∷ ts) (x ∷ gs) s t g h k = (h.0, one-more-gone ss ts gs s t g h.1 k)

-- ---- a message

for-index : (index i : ℕ) (m : MessageReading) → ((i : ℕ) → is_for i m ≡ (index == i)) → (index == i) ≡ true → is_for i m ≡ true
for-index index i m told e = told i ∙ e

pub asked-here : (s s' : AirService) (ss : List AirService) (t : ServiceTerms) (more : List ServiceTerms) (g : Gone) (later : List Gone) (m : MessageReading) (r : Reply) → is_for t.config.index m ≡ true
    → (r ≡ reply_to t.config.index m (turns_in t.config.program g.own)) × HasGone s' t (gone_asked m g) → AllGone ss more later → AskedOnAir (Some r) (s' ∷ ss) (t ∷ more) (g ∷ later) m
asked-here s s' ss t more g later m r is_so h k = (
  or_left (is_for t.config.index m) (one_is_for more m) is_so,
  h.0 ∙ sym (ap (λ b. if b then reply_to t.config.index m (turns_in t.config.program g.own) else reply_by_gone more later m) is_so),
  subst (AllGone (s' ∷ ss) (t ∷ more)) (sym (ap (λ b. if b then gone_asked m g ∷ later else g ∷ gones_asked more m later) is_so)) (h.1, k),
)

pub asked-behind : (s : AirService) (ss : List AirService) (t : ServiceTerms) (more : List ServiceTerms) (g : Gone) (later : List Gone) (m : MessageReading) (o : Option Reply) → is_for t.config.index m ≡ false
    → HasGone s t g → AskedOnAir o ss more later m → AskedOnAir o (s ∷ ss) (t ∷ more) (g ∷ later) m
asked-behind s ss t more g later m None not_so h asked = (or_from (is_for t.config.index m) (one_is_for more m) not_so asked.0, (h, asked.1))
asked-behind s ss t more g later m (Some r) not_so h asked = (
  or_right (is_for t.config.index m) (one_is_for more m) asked.0,
  asked.1 ∙ sym (ap (λ b. if b then reply_to t.config.index m (turns_in t.config.program g.own) else reply_by_gone more later m) not_so),
  subst (AllGone (s ∷ ss) (t ∷ more)) (sym (ap (λ b. if b then gone_asked m g ∷ later else g ∷ gones_asked more m later) not_so)) (h, asked.2),
)

-- it is for none
pub none-asked : (ss : List AirService) (ts : List ServiceTerms) (gs : List Gone) (m : MessageReading) → one_is_for ts m ≡ false → AllGone ss ts gs → (reply_by_gone ts gs m ≡ reply_of_none m) × (gones_asked ts m gs ≡ gs)
none-asked [] [] [] m not_so h = (refl, refl)
none-asked [] [] (g ∷ gs) m not_so h = absurd h
none-asked [] (t ∷ ts) gs m not_so h = absurd h
none-asked (s ∷ ss) [] gs m not_so h = absurd h
none-asked (s ∷ ss) (t ∷ ts) [] m not_so h = absurd h
none-asked (s ∷ ss) (t ∷ ts) (g ∷ gs) m not_so h =
    let parts = or_parts (is_for t.config.index m) (one_is_for ts m) not_so in
    let (says, same) = none-asked ss ts gs m parts.1 h.1 in (
      ap (λ b. if b then reply_to t.config.index m (turns_in t.config.program g.own) else reply_by_gone ts gs m) parts.0 ∙ says,
      ap (λ b. if b then gone_asked m g ∷ gs else g ∷ gones_asked ts m gs) parts.0 ∙ ap (λ l. g ∷ l) same,
    )

-- without an index it is for none
pub no-index : (m : MessageReading) (ts : List ServiceTerms) → ((i : ℕ) → is_for i m ≡ false) → one_is_for ts m ≡ false
no-index m [] told = refl
no-index m (t ∷ ts) told = or_from (is_for t.config.index m) (one_is_for ts m) (told t.config.index) (no-index m ts told)

-- ---- counts

pub lost-more-of : (n k all : ℕ) (g : Gone) (later : List Gone) → n ≡ capped g.lost → k ≡ capped (lost_among later) → all ≡ capped (n + k) → all ≡ capped (lost_among (g ∷ later))
lost-more-of n k all g later e f h = grind arith

-- ---- the service with this index

module _ (l : List AirService) (s : AirService) (ss : List AirService) (ts : List ServiceTerms) (gs : List Gone) (index : ℕ) (m : MessageReading) (c : Config) (shape : l ≡ s ∷ ss)
    (told : (i : ℕ) → is_for i m ≡ (index == i)) (is : c ≡ s.service.config) where
  index-so : (b : Bool) → (index == c.index) ≡ b → (k : GoneOf s ss ts gs) → is_for k.t.config.index m ≡ b
  index-so b e k = told k.t.config.index ∙ ap (λ (d : Config). index == d.index) (sym (is ∙ k.first.airs.config)) ∙ e

  pub asked-first-gone : (s' : AirService) (r : Reply) → (index == c.index) ≡ true
      → ((t : ServiceTerms) (g : Gone) → HasGone s t g → (r ≡ reply_to t.config.index m (turns_in t.config.program g.own)) × HasGone s' t (gone_asked m g)) → AllGone l ts gs
      → AskedOnAir (Some r) (s' ∷ ss) ts gs m
  asked-first-gone s' r e asks h =
      let k = gone-of l s ss ts gs shape h in
      subst (λ w. AskedOnAir (Some r) (s' ∷ ss) w gs m) (sym k.terms)
      (subst (λ w. AskedOnAir (Some r) (s' ∷ ss) (k.t ∷ k.more) w m) (sym k.gones) (asked-here s s' ss k.t k.more k.g k.later m r (index-so true e k) (asks k.t k.g k.first) k.others))

  pub asked-later-gone : (ss' : List AirService) (o : Option Reply) → (index == c.index) ≡ false → ((us : List ServiceTerms) (hs : List Gone) → AllGone ss us hs → AskedOnAir o ss' us hs m) → AllGone l ts gs
      → AskedOnAir o (s ∷ ss') ts gs m
  asked-later-gone ss' o e asks h =
      let k = gone-of l s ss ts gs shape h in
      subst (λ w. AskedOnAir o (s ∷ ss') w gs m) (sym k.terms)
      (subst (λ w. AskedOnAir o (s ∷ ss') (k.t ∷ k.more) w m) (sym k.gones) (asked-behind s ss' k.t k.more k.g k.later m o (index-so false e k) k.first (asks k.more k.later k.others)))

-- what answers those for none
pub answered-none : (items : List AirService) (none now : Requests) (ts : List ServiceTerms) (gs : List Gone) (m : MessageReading) (r : Reply) → one_is_for ts m ≡ false
    → ((index : ℕ) (past : List Turn) → RequestsStandFor none index past → r ≡ reply_to index m past)
    → ((index : ℕ) (past : List Turn) → RequestsStandFor none index past → RequestsStandFor now index (Judged m ∷ past)) → AllGone items ts gs → AnswersNone none ts
    → (r ≡ reply_by_gone ts gs m) × AllGone items ts (gones_asked ts m gs) × AnswersNone now ts
answered-none items none now ts gs m r not_so says turn h n =
    let (told, same) = none-asked items ts gs m not_so h in
    let (is, answers) = answers_none none now ts m r not_so says turn n in
    (is ∙ sym told, subst (AllGone items ts) (sym same) h, answers)

-- ---- services that begin

pub added-gone : {X Y : Type 0} (r : Result X Y) (items mid now : List AirService) (s : AirService) (c : Config) (cs configs : List Config) (before ts : List ServiceTerms) (gs : List Gone) → configs ≡ c ∷ cs
    → mid ≡ items ++ s ∷ [] → configs_of ts ≡ configs → ((t : ServiceTerms) → t.config ≡ c → HasGone s t nothing_gone) → AllGone items before gs
    → ((b us : List ServiceTerms) (hs : List Gone) → configs_of us ≡ cs → AllGone mid b hs → OnOk r (AllGone now (b ++ us) (hs ++ nothings_gone us))) → OnOk r (AllGone now (before ++ ts) (gs ++ nothings_gone ts))
added-gone r items mid now s c cs configs before ts gs shape is are new all goes = by ts (are ∙ shape) where
  by : (us : List ServiceTerms) → configs_of us ≡ c ∷ cs → OnOk r (AllGone now (before ++ us) (gs ++ nothings_gone us))
  by [] e = absurd (cc)
  by (t ∷ us) e =
      let first : t.config ≡ c = cc in
      let rest : configs_of us ≡ cs = cc in
      let more = subst (λ l. AllGone l (before ++ t ∷ []) (gs ++ nothing_gone ∷ [])) (sym is) (one-more-gone items before gs s t nothing_gone all (new t first)) in
      on_ok_weaker r (λ d. subst (λ l. AllGone now l (gs ++ nothings_gone (t ∷ us))) (append_assoc before (t ∷ []) us) (subst (AllGone now ((before ++ t ∷ []) ++ us)) (append_assoc gs (nothing_gone ∷ []) (nothings_gone us)) d))
      (goes (before ++ t ∷ []) us (gs ++ nothing_gone ∷ []) rest more)

-- ---- what became of events

pub adds-first : (before mid now : List ServiceEvents) (e : ServiceEvents) (t : ServiceTerms) (ts : List ServiceTerms) (g : Gone) (gs : List Gone) → mid ≡ before ++ e ∷ [] → EventsOnAir e t g
    → AddsOnAir mid now ts gs → AddsOnAir before now (t ∷ ts) (g ∷ gs)
adds-first before mid now e t ts g gs is one (more, adds, them) = (e ∷ more, adds ∙ ap (λ l. l ++ more) is ∙ append_assoc before (e ∷ []) more, (one, them))
