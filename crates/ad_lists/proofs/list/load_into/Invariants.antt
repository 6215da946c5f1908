use Rattle.std.proofs.Common.{List, ℕ}
use Rattle.std.specs.Io.KnownBytes.{Consumes}
use Rattle.ts_packet.specs.Transfers.{Rose, WentWell}
use Rattle.ad_lists.specs.Lists.{IsRead}
use Rattle.ad_lists.proofs.list.load_into.Given as goal

abbrev pub invariant-loop-turn : goal.invariant-loop-turn
invariant-loop-turn g l = record {
  turns : Rose l._turn (g.S.Source.counts l.initial.list).calls (g.S.Source.counts l.list).calls;
  well : WentWell (g.S.Source.counts l.initial.list) (g.S.Source.counts l.list);
  read : (text : List ℕ) × Consumes (g.S.Source.remaining l.initial.list) (g.S.Source.remaining l.list) text × IsRead l.loading text;
}
