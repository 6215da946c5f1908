-- How far one service has come: a message, a packet, and a stretch that ends.
use Rattle.std.proofs.Common.{◌≡◌, ℕ, suc, ◌+◌, List, [], ◌∷◌, length, Bool, true, false, not, Option, refl, sym, ap, subst, ◌∙◌, arith}
use Rattle.std.specs.Prelude.{◌&&◌, nat_lt, option_map}
use Rattle.psi_section.specs.Assembling.{capped}
use Rattle.pes_time.specs.Line.{ring_of}
use Rattle.event_table.specs.Events.{open_count_of}
use Rattle.event_table.specs.Tables.{high_time_of, events_of}
use Rattle.scte104_codec.specs.Reading.{MessageReading}
use Rattle.scte104_codec.specs.declared.reply.Reply.{Reply}
use Rattle.program_follower.specs.Purposes.{writing_cues}
use Rattle.injector.specs.Replies.{reply_to}
use Rattle.injector.specs.Steps.{packets_in, turns_in}
use Rattle.injector.specs.Turns.{greatest_in}
use Rattle.ad_library.specs.Advertisements.{Advertisement}
use Rattle.splice_plans.specs.Adverts.{setting_of}
use Rattle.splice_plans.specs.Stepping.{Journey}
use Rattle.splice_plans.specs.Reporting.{EventCounts, ReportIs, events_sum, report_of}
use Rattle.splice_plans.specs.declared.report.SwitchReport.{SwitchReport}
use Rattle.splice_switch.specs.Standing.{SwitchStandsAt}
use Rattle.service_laws.specs.Services.{ServiceTerms}
use Rattle.chain_engine.specs.Judging.{ServiceJudges}
use Rattle.chain_engine.specs.Passing.{ServiceStandsFor}
use Rattle.chain_engine.specs.Airing.{Aired, read_of}
use Rattle.chain_engine.specs.Switched.{journey_of}
use Rattle.chain_engine.specs.Chained.{ServiceAirs, PassedOnAir}
use Rattle.chain_engine.specs.declared.service.Service.{Service}
use Rattle.on_air.specs.AirRuns.{has_no}
use Rattle.services_on_air.specs.Airing.{Airing, next_of, anew_with}
use Rattle.services_on_air.specs.Histories.{Gone, HasGone, TailKept, gone_asked, gone_on, gone_anew, gone_settled, begins_anew, put_anew, put_settled, put_on, counts_sum, counts_by, open_by}
use Rattle.services_on_air.specs.declared.service.AirService.{AirService}
use Rattle.services_on_air.proofs.ServiceLemmas.{GoesOn, next-goes}

-- ---- a service that begins

pub airs-new : (s : Service) (t : ServiceTerms) → ServiceStandsFor s t.config t.filed [] → ServiceAirs s t.config t.filed [] []
airs-new s t h = record { injector = h.injector; switch = h.switch; read = refl; network = h.network; config = h.config }

-- nothing changes that counts
pub same-gone : (old new : AirService) (t : ServiceTerms) (g : Gone) → new.service ≡ old.service → new.tail ≡ old.tail → new.ended ≡ old.ended → new.lost ≡ old.lost → HasGone old t g → HasGone new t g
same-gone old new t g service tail ended lost h = record {
  airs = subst (λ s. ServiceAirs s t.config t.filed g.own g.fed) (sym service) h.airs;
  tail = subst (λ w. TailKept w (writing_cues t.config) (packets_in g.own)) (sym tail) h.tail;
  counted = subst (λ w. ReportIs w g.counted) (sym ended) h.counted;
  lost = lost ∙ h.lost;
}

-- ---- a message

pub asked-so : (old new : AirService) (t : ServiceTerms) (g : Gone) (m : MessageReading) (reply : Reply) → ServiceJudges old.service m reply new.service → new.tail ≡ old.tail → new.ended ≡ old.ended
    → new.lost ≡ old.lost → HasGone old t g → (reply ≡ reply_to t.config.index m (turns_in t.config.program g.own)) × HasGone new t (gone_asked m g)
asked-so old new t g m reply j tail ended lost h = (
  j.judged.answer t.config g.own h.airs.injector.judges,
  record {
    airs = record {
      injector = j.judged.stands t.config g.own h.airs.injector;
      switch = subst (λ w. SwitchStandsAt w t.config t.filed (journey_of (setting_of t.config t.filed) g.fed)) (sym j.switch) h.airs.switch;
      read = h.airs.read;
      network = h.airs.network;
      config = j.config ∙ h.airs.config;
    };
    tail = subst (λ w. TailKept w (writing_cues t.config) (packets_in g.own)) (sym tail) h.tail;
    counted = subst (λ w. ReportIs w g.counted) (sym ended) h.counted;
    lost = lost ∙ h.lost;
  },
)

-- ---- a packet

pub passed-so : (new : AirService) (t : ServiceTerms) (g : Gone) (a : Aired) (is_out : List (List ℕ) → Type 0) → PassedOnAir new.service t.config t.filed a g.own g.fed is_out
    → TailKept new.tail (writing_cues t.config) (read_of a ∷ packets_in g.own) → ReportIs new.ended g.counted → new.lost ≡ capped g.lost → HasGone new t (gone_on t a g) × is_out (put_on t a g)
passed-so new t g a is_out by tail counted lost = (record { airs = by.airs; tail = tail; counted = counted; lost = lost }, by.out)

-- ---- a stretch that ends

-- what it counted
pub report-so : (s : Service) (t : ServiceTerms) (g : Gone) (f : ℕ → Option Advertisement) (report : SwitchReport) → f ≡ t.filed → ServiceAirs s t.config t.filed g.own g.fed
    → ((x : Journey) → SwitchStandsAt s.switch t.config f x → ReportIs report (report_of (setting_of t.config f) x.read)) → ReportIs report (counts_by t g.own)
report-so s t g f report filed h reports =
    let k = setting_of t.config t.filed in
    let here = subst (λ w. (x : Journey) → SwitchStandsAt s.switch t.config w x → ReportIs report (report_of (setting_of t.config w) x.read)) filed reports in
    subst (λ l. ReportIs report (report_of k l)) h.read (here (journey_of k g.fed) h.switch)

-- and lost
pub standing-so : (s : Service) (t : ServiceTerms) (g : Gone) (n : ℕ) → ServiceAirs s t.config t.filed g.own g.fed
    → n ≡ open_count_of (high_time_of s.injector.requests.table) (events_of s.injector.requests.table) → n ≡ open_by t g.own
standing-so s t g n h is =
    let table = h.injector.judges.requests.table in
    is ∙ ap (λ o. open_count_of o (events_of s.injector.requests.table)) table.high
    ∙ ap (open_count_of (option_map ring_of (greatest_in (turns_in t.config.program g.own)))) table.events

-- summed
pub summed-so : (a b : SwitchReport) (x y : EventCounts) → ReportIs a x → ReportIs b y → ReportIs (events_sum a b) (counts_sum x y)
summed-so a b x y h k = record {
  played = one a.played b.played x.played y.played h.played k.played;
  not_fitted = one a.not_fitted b.not_fitted x.not_fitted y.not_fitted h.not_fitted k.not_fitted;
  unconditioned = one a.unconditioned b.unconditioned x.unconditioned y.unconditioned h.unconditioned k.unconditioned;
  ignored = one a.ignored b.ignored x.ignored y.ignored h.ignored k.ignored;
} where
  one : (m n i j : ℕ) → m ≡ capped i → n ≡ capped j → capped (m + n) ≡ capped (i + j)
  one m n i j e f = grind arith

pub lost-more : (m n k : ℕ) → m ≡ capped k → capped (m + n) ≡ capped (k + n)
lost-more m n k e = grind arith

pub anew-so : (old new : AirService) (t : ServiceTerms) (g : Gone) (report : SwitchReport) (n : ℕ) → ServiceStandsFor new.service t.config t.filed [] → TailKept new.tail (writing_cues t.config) []
    → new.ended ≡ events_sum old.ended report → ReportIs report (counts_by t g.own) → new.lost ≡ capped (old.lost + n) → n ≡ open_by t g.own → HasGone old t g → HasGone new t (gone_anew t g)
anew-so old new t g report n begins tail ended counts lost stood h = record {
  airs = airs-new new.service t begins;
  tail = tail;
  counted = subst (λ w. ReportIs w (counts_sum g.counted (counts_by t g.own))) (sym ended) (summed-so old.ended report g.counted (counts_by t g.own) h.counted counts);
  lost = lost ∙ lost-more old.lost n g.lost h.lost ∙ ap (λ k. capped (g.lost + k)) stood;
}

-- ---- a packet that is settled: another stretch begins with it, or none

pub settled-same : (s : AirService) (t : ServiceTerms) (g : Gone) (b : Bool) (is_out : List (List ℕ) → Type 0) → b ≡ false → HasGone s t g → is_out []
    → HasGone s t (gone_settled t b g) × is_out (put_settled t b g)
settled-same s t g b is_out not_so h out = subst (λ d. HasGone s t (gone_settled t d g) × is_out (put_settled t d g)) (sym not_so) (h, out)

pub settled-anew : (s : AirService) (t : ServiceTerms) (g : Gone) (b : Bool) (is_out : List (List ℕ) → Type 0) → b ≡ true → HasGone s t (gone_anew t g) × is_out (put_anew t g)
    → HasGone s t (gone_settled t b g) × is_out (put_settled t b g)
settled-anew s t g b is_out is_so h = subst (λ d. HasGone s t (gone_settled t d g) × is_out (put_settled t d g)) (sym is_so) h

longer : (n : ℕ) → nat_lt n (suc n) ≡ true
longer n = grind arith

no-longer : (n : ℕ) → nat_lt n n ≡ false
no-longer n = grind arith

both : (c d : Bool) → c ≡ false → d ≡ true → (not c && d) ≡ true
both c d e f = simp (e, f) refl

neither : (c d : Bool) → c ≡ true → (not c && d) ≡ false
neither c d e = simp e refl

second : (c d : Bool) → d ≡ false → (not c && d) ≡ false
second true d e = refl
second false d e = e

pub first-not-anew : (p : List ℕ) (a : Airing) → has_no a.stretches ≡ true → begins_anew p a ≡ false
first-not-anew p a none = neither (has_no a.stretches) (nat_lt (length a.stretches) (length (next_of p a).stretches)) none

pub is-anew : (p : List ℕ) (a : Airing) → has_no a.stretches ≡ false → next_of p a ≡ anew_with p a.config a.stretches → begins_anew p a ≡ true
is-anew p a some e =
    both (has_no a.stretches) _ some (ap (λ (x : Airing). nat_lt (length a.stretches) (length x.stretches)) e ∙ longer (length a.stretches))

pub not-anew : (p : List ℕ) (a : Airing) (s : AirService) (b : Bool) → a.shares ≡ false → GoesOn s.marks (writing_cues a.config) p a.stretches b → begins_anew p a ≡ false
not-anew p a s b off g =
    let is = next-goes p a off ∙ g.after in
    let long : length a.stretches ≡ suc (length g.earlier) = ap length g.before in
    let same : length (next_of p a).stretches ≡ suc (length g.earlier) = ap length is in
    second (has_no a.stretches) (nat_lt (length a.stretches) (length (next_of p a).stretches)) (ap (λ n. nat_lt n (length (next_of p a).stretches)) long ∙ ap (nat_lt (suc (length g.earlier))) same ∙ no-longer (suc (length g.earlier)))
