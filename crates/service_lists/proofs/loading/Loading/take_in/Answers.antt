use Rattle.std.proofs.Common.{◌≡◌, ◌++◌, ◌∷◌, [], refl, sym, subst, append_assoc, rules}
use Rattle.std.proofs.lemmas.List.{append-nil}
use Rattle.service_lists.specs.Lists.{IsRead, StopsAt}
use Rattle.ad_lists.proofs.ListLemmas.{takes_on, said_later}
use Rattle.service_lists.proofs.loading.Loading.take_in.Goals as goal

pub loop-byte-init : goal.loop-byte-init
loop-byte-init g c = record { read = ([], refl, λ text h. subst (IsRead c.args.self.now) (sym (append-nil text)) h) }

pub returns-in-Err-clause-stops : goal.returns-in-Err-clause-stops
returns-in-Err-clause-stops g c = λ text h more.
    let (done, e, r) = c.loop-byte.invariant.read in
    let first : c.loop-byte.rest.now ≡ c.in-Some.byte.now ∷ c.in-Some.behind.now = search rules in
    said_later (StopsAt c.in-Err.unloaded.fault c.in-Err.unloaded.line) text done c.args.part.now c.loop-byte.rest.now c.in-Some.behind.now more c.in-Some.byte.now e first
    (c.in-Err.ensures.stops (text ++ done) (r text h) (c.in-Some.behind.now ++ more))

pub loop-byte-preserved : goal.loop-byte-preserved
loop-byte-preserved g c =
    let (done, e, r) = c.loop-byte.invariant.read in
    let first : c.loop-byte.rest.now ≡ c.in-Some.byte.now ∷ c.in-Some.behind.now = search rules in
    let byte = c.in-Some.byte.now in
    record {
      read = (
        done ++ byte ∷ [],
        takes_on [] done c.args.part.now c.loop-byte.rest.now c.in-Some.behind.now byte e first,
        λ text h. subst (IsRead c.take.new.self) (append_assoc text done (byte ∷ [])) (c.in-Ok.ensures.ok (text ++ done) (r text h)),
      );
    }
