use Rattle.std.proofs.Common.{sym, ◌∙◌, subst}
use Rattle.std.specs.Prelude.{map, Some}
use Rattle.event_table.specs.Tables.{StandsFor}
use Rattle.injector.specs.declared.requests.Requests.{Requests}
use Rattle.injector.specs.Senders.{tell, standing_senders}
use Rattle.unit_stream.specs.Clocks.{Rises}
use Rattle.injector.proofs.SenderLemmas.{in_pairs, pairs-events, told-events, standing-told, noted-risen, restate-notes, rises-by}
use Rattle.injector.specs.Turns.{greatest_in, events}
use Rattle.injector.proofs.RequestLemmas.{advanced-stands}
use Rattle.injector.proofs.requests.Requests.advance.Goals as goal

pub returns-clause-stands : goal.returns-clause-stands
returns-clause-stands c = λ index past later stands is.
    record {
      index_is = stands.index_is;
      table = advanced-stands c.args.self.now.table _ (greatest_in past) c.args.time later (events index past) c.requires stands.table is
          (c.advance.ensures.stands (greatest_in past) _ later stands.table is);
    }

pub returns-clause-notes : goal.returns-clause-notes
returns-clause-notes c = λ index past later stands told is.
    let xs = map (tell (greatest_in past) (Some later)) (standing_senders index past) in
    let new : Requests = record { index = c.args.self.now.index; table = c.advance.new.self } in
    let rises : Rises (greatest_in past) (Some later) = rises-by c.args.self.now.table (greatest_in past) c.args.time later stands.table.high c.requires is in
    restate-notes new (Some later) _ _ (sym (standing-told index past (Some later) rises))
    (noted-risen c.args.self.now new later xs told
    (λ values. c.advance.ensures.pairs (greatest_in past) (in_pairs xs) later
    (subst (StandsFor c.args.self.now.table (greatest_in past)) (sym (pairs-events xs ∙ told-events index past (Some later))) stands.table) is values))
