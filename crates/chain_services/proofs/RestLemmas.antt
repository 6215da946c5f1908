-- What is left at the end, service by service.
use Rattle.std.specs.Prelude.{OnOk, IfErr}
use Rattle.std.proofs.Common.{◌≡◌, ℕ, suc, List, [], ◌∷◌, ◌++◌, length, Result, Ok, Err, refl, sym, ap, subst, ◌∙◌, arith, append_assoc}
use Rattle.ts_packet.specs.declared.sink.PutFault.{PutFault}
use Rattle.psi_tables.specs.declared.config.Config.{Config}
use Rattle.psi_tables.specs.declared.network.FeedFault.{FeedFault}
use Rattle.psi_tables.specs.declared.network.FeedFault.TheVariants.{Network, Sink, Failed}
use Rattle.outgoing_packets.specs.Numbers.{FrontFails}
use Rattle.injector.specs.Steps.{Step, cued}
use Rattle.splice_plans.specs.declared.report.SwitchReport.{SwitchReport}
use Rattle.splice_plans.specs.Adverts.{setting_of}
use Rattle.splice_plans.specs.Switching.{rest_at}
use Rattle.splice_plans.specs.Reporting.{ReportIs, report_of}
use Rattle.splice_switch.specs.Standing.{FinishFails}
use Rattle.chain_engine.specs.declared.service.Service.{Service}
use Rattle.service_laws.specs.Messages.{own_steps}
use Rattle.service_laws.specs.Services.{ServiceTerms, services_rest}
use Rattle.service_laws.proofs.MessageLemmas.{own_cued}
use Rattle.chain_services.specs.Serving.{ServesAs}
use Rattle.chain_services.specs.Parts.{rest_of, EventsAre, AreEvents, AddsOne, AddsEvents, OneRestFails, RestFails}
use Rattle.chain_services.specs.declared.report.ServiceEvents.{ServiceEvents}

-- ---- results

pub on_ok_so : {X Y A B : Type 0} (r : Result X Y) → (A → B) → OnOk r A → OnOk r B
on_ok_so (Ok x) so h = so h
on_ok_so (Err e) so h = tt

pub if_err_so : {X Y : Type 0} (r : Result X Y) (A B : Y → Type 0) → ((e : Y) → A e → B e) → IfErr r A → IfErr r B
if_err_so (Ok x) A B so h = tt
if_err_so (Err e) A B so h = so e h

-- ---- one service

-- its switch was fed by what it took as by its own
pub taken_cued : (s : Service) (t : ServiceTerms) (steps : List Step) → (h : ServesAs s t steps) → cued t.config h.taken ≡ cued t.config (own_steps t.config.index steps)
taken_cued s t steps h = sym (own_cued t.config h.taken) ∙ ap (cued t.config) h.own

pub events_are : (s : Service) (t : ServiceTerms) (steps : List Step) (h : ServesAs s t steps) (c : Config) (switch : SwitchReport) → c ≡ t.config
    → ReportIs switch (report_of (setting_of t.config t.filed) (cued t.config h.taken)) → EventsAre (record { index = c.index; program = c.program; switch = switch }) t steps
events_are s t steps h c switch is told = record {
  index = ap (λ (d : Config). d.index) is;
  program = ap (λ (d : Config). d.program) is;
  switch = subst (λ l. ReportIs switch (report_of (setting_of t.config t.filed) l)) (taken_cued s t steps h) told;
}

pub one_fails : (f : FeedFault) (s : Service) (t : ServiceTerms) (steps : List Step) (h : ServesAs s t steps) (before : List ServiceEvents) (fails : List (List ℕ) → List ℕ → PutFault → Type 0)
    → FinishFails f t.config t.filed (cued t.config h.taken) fails → OneRestFails f before t steps fails
one_fails (Network f) s t steps h before fails k = absurd k
one_fails (Sink x) s t steps h before fails k = subst (λ l. FrontFails (rest_at (setting_of t.config t.filed) l) (λ put q. fails put q x)) (taken_cued s t steps h) k
one_fails Failed s t steps h before fails k = absurd k

-- ---- some services

pub adds_more : (before mid now : List ServiceEvents) (t : ServiceTerms) (ts : List ServiceTerms) (steps : List Step) → AddsOne before mid t steps → AddsEvents mid now ts steps → AddsEvents before now (t ∷ ts) steps
adds_more before mid now t ts steps (e, is, are) (more, is', are') = (e ∷ more, is' ∙ ap (λ l. l ++ more) is ∙ append_assoc before (e ∷ []) more, (are, are'))

pub one_longer : (before mid : List ServiceEvents) (t : ServiceTerms) (steps : List Step) → AddsOne before mid t steps → length mid ≡ suc (length before)
one_longer before mid t steps (e, is, are) = ap length is ∙ long before
  where
    long : (es : List ServiceEvents) → length (es ++ e ∷ []) ≡ suc (length es)
    long [] = refl
    long (x ∷ es) = ap suc (long es)

pub rest_first : (f : FeedFault) (before : List ServiceEvents) (t : ServiceTerms) (ts : List ServiceTerms) (steps : List Step) (fails : List (List ℕ) → List ℕ → PutFault → Type 0)
    → OneRestFails f before t steps fails → RestFails f before (t ∷ ts) steps fails
rest_first (Network f) before t ts steps fails h = absurd h
rest_first (Sink x) before t ts steps fails h = record {
  put = h.put;
  packet = h.packet;
  left = h.left ++ services_rest ts steps;
  all = ap (λ l. l ++ services_rest ts steps) h.all ∙ append_assoc h.put (h.packet ∷ h.left) (services_rest ts steps);
  fault = h.fault;
}
rest_first Failed before t ts steps fails h = omega (arith, h)

pub rest_more : (f : FeedFault) (before mid : List ServiceEvents) (t : ServiceTerms) (ts : List ServiceTerms) (steps : List Step) (ps : List (List ℕ)) (fails : List (List ℕ) → List ℕ → PutFault → Type 0)
    → AddsOne before mid t steps → RestFails f mid ts steps (λ put q x. fails ((ps ++ rest_of t steps) ++ put) q x) → RestFails f before (t ∷ ts) steps (λ put q x. fails (ps ++ put) q x)
rest_more (Network f) before mid t ts steps ps fails one h = absurd h
rest_more (Sink x) before mid t ts steps ps fails one h = record {
  put = rest_of t steps ++ h.put;
  packet = h.packet;
  left = h.left;
  all = ap (λ l. rest_of t steps ++ l) h.all ∙ sym (append_assoc (rest_of t steps) h.put (h.packet ∷ h.left));
  fault = subst (λ l. fails l h.packet x) (append_assoc ps (rest_of t steps) h.put) h.fault;
}
rest_more Failed before mid t ts steps ps fails one h = let long = one_longer before mid t steps one in omega (arith, h, long)

-- all of them, from none
pub all_told : (now : List ServiceEvents) (ts : List ServiceTerms) (steps : List Step) → AddsEvents [] now ts steps → AreEvents now ts steps
all_told now ts steps (more, is, are) = subst (λ l. AreEvents l ts steps) (sym is) are
