use Rattle.std.proofs.Common.{◌≡◌, ◌+◌, ◌-◌, ◌^◌, sym, ap, ◌∙◌, subst}
use Rattle.std.specs.Prelude.{min}
use Rattle.event_table.specs.Tables.{values_of}
use Rattle.scte35_codec.specs.Reading.{cue_of}
use Rattle.armed_events.specs.declared.obeying.Obeyed.{Obeyed}
use Rattle.armed_events.specs.Asking.{asked_of}
use Rattle.armed_events.specs.Arming.{change, standing_at, with_change}
use Rattle.armed_events.specs.Obeying.{ObeyedFor}
use Rattle.armed_events.specs.Valuing.{values_by}
use Rattle.armed_events.proofs.ChangeLemmas.{change-fits}
use Rattle.armed_events.proofs.PastLemmas.{obeyed-for, ignored-for}
use Rattle.armed_events.proofs.obeying.Obeyed.take.Goals as goal

pub returns-else-not-is_obeyed-clause-obeyed : goal.returns-else-not-is_obeyed-clause-obeyed
returns-else-not-is_obeyed-clause-obeyed g c = λ latest heard o.
    let standing = standing_at latest heard.events in
    let is : c.asked_of.result ≡ asked_of (cue_of c.args.section.now) = c.asked_of.ensures ∙ ap asked_of c.read.ensures.exact in
    let obey = c.obey-is_obeyed in
    subst (λ asked. ObeyedFor obey.new.self latest (with_change latest (change latest standing asked) heard)) is
    (obeyed-for c.args.self.now obey.new.self latest heard c.asked_of.result o
    (obey.ensures.stands latest standing o.table)
    (sym (obey.ensures.answer latest standing o.table) ∙ c.if-not-is_obeyed.false)
    obey.ensures.ignored)

pub returns-then-not-is_obeyed-clause-obeyed : goal.returns-then-not-is_obeyed-clause-obeyed
returns-then-not-is_obeyed-clause-obeyed g c = λ latest heard o.
    let standing = standing_at latest heard.events in
    let is : c.asked_of.result ≡ asked_of (cue_of c.args.section.now) = c.asked_of.ensures ∙ ap asked_of c.read.ensures.exact in
    let obey = c.obey-is_obeyed in
    let counted : Obeyed g.row.T.Denot = record { table = obey.new.self.table; ignored = c.saturating_add-self.result } in
    subst (λ asked. ObeyedFor counted latest (with_change latest (change latest standing asked) heard)) is
    (ignored-for c.args.self.now counted latest heard c.asked_of.result o
    (obey.ensures.stands latest standing o.table)
    (sym (obey.ensures.answer latest standing o.table) ∙ c.if-not-is_obeyed.true)
    (c.saturating_add-self.ensures ∙ ap (λ n. min (n + 1) (2 ^ 64 - 1)) obey.ensures.ignored))

pub returns-else-not-is_obeyed-clause-values : goal.returns-else-not-is_obeyed-clause-values
returns-else-not-is_obeyed-clause-values g c = λ latest heard value o fresh beside.
    let standing = standing_at latest heard.events in
    let is : c.asked_of.result ≡ asked_of (cue_of c.args.section.now) = c.asked_of.ensures ∙ ap asked_of c.read.ensures.exact in
    let obey = c.obey-is_obeyed in
    subst (λ asked. values_of obey.new.self.table ≡ values_by value (standing_at latest (with_change latest (change latest standing asked) heard).events)) is
    (obey.ensures.values latest standing value o.table fresh beside ∙ ap (values_by value) (sym (change-fits latest heard.events c.asked_of.result)))

pub returns-then-not-is_obeyed-clause-values : goal.returns-then-not-is_obeyed-clause-values
returns-then-not-is_obeyed-clause-values g c = λ latest heard value o fresh beside.
    let standing = standing_at latest heard.events in
    let is : c.asked_of.result ≡ asked_of (cue_of c.args.section.now) = c.asked_of.ensures ∙ ap asked_of c.read.ensures.exact in
    let obey = c.obey-is_obeyed in
    subst (λ asked. values_of obey.new.self.table ≡ values_by value (standing_at latest (with_change latest (change latest standing asked) heard).events)) is
    (obey.ensures.values latest standing value o.table fresh beside ∙ ap (values_by value) (sym (change-fits latest heard.events c.asked_of.result)))
