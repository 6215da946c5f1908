use Rattle.std.proofs.Common.{◌≡◌, ◌∷◌, false, sym, ap, ◌∙◌}
use Rattle.ts_packet.specs.Fields.{on}
use Rattle.program_follower.specs.Following.{on_map}
use Rattle.program_follower.proofs.MapsLemmas.{maps_still, none_shown, maps_off, maps_clean_off}
use Rattle.program_follower.proofs.map_reader.MapReader.feed.Goals as goal

pub returns-then-not-is_on-clause-reads : goal.returns-then-not-is_on-clause-reads
returns-then-not-is_on-clause-reads c = λ past at h.
    let l = c.in-Some.listed in
    let o : on l.pid c.args.packet.now ≡ false = cc in
    maps_still c.args.self.now false _ c.args.purpose.now.program (c.args.packet.now ∷ past)
    (maps_off c.args.purpose.now c.args.self.now l c.args.packet.now past (sym c.in-Some.is ∙ at) h o)

pub returns-then-not-is_on-clause-shows : goal.returns-then-not-is_on-clause-shows
returns-then-not-is_on-clause-shows c = λ past at h.
    let l = c.in-Some.listed in
    let o : on l.pid c.args.packet.now ≡ false = cc in
    none_shown c.args.self.now _ c.args.purpose.now.program c.args.packet.now past (ap (λ x. on_map x c.args.packet.now) (sym at ∙ c.in-Some.is) ∙ o)

pub returns-then-not-is_on-clause-ok : goal.returns-then-not-is_on-clause-ok
returns-then-not-is_on-clause-ok c = λ past at h.
    let l = c.in-Some.listed in
    let o : on l.pid c.args.packet.now ≡ false = cc in
    maps_clean_off c.args.purpose.now c.args.self.now l c.args.packet.now past (sym c.in-Some.is ∙ at) h o
