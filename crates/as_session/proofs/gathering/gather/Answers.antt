use Rattle.std.proofs.Common.{◌≡◌, ◌-◌, ◌++◌, length, take, drop, min, ap, sym, ◌∙◌, arith}
use Rattle.scte104_codec.specs.declared.framing.Frame.TheVariants.{NeedMore}
use Rattle.as_session.proofs.GatherLemmas.{First, short_frame, bad_frame, below_frame, whole_frame, gathers}
use Rattle.as_session.proofs.gathering.gather.Goals as goal

pub returns-then-len-lt4-clause-frame : goal.returns-then-len-lt4-clause-frame
returns-then-len-lt4-clause-frame g c =
    let first : First c.args.ring.now.items c.args.piece.now c.fill_to-first.new.ring.items c.fill_to-first.result = record { count = c.fill_to-first.ensures.used; items = ap (λ b. b.items) c.fill_to-first.ensures.items } in
    ap (λ n. NeedMore (4 - n)) c.len-then-len-lt4.ensures.len ∙ short_frame _ _ _ _ first (omega arith)

pub returns-in_default-clause-frame : goal.returns-in_default-clause-frame
returns-in_default-clause-frame g c =
    let first : First c.args.ring.now.items c.args.piece.now c.fill_to-first.new.ring.items c.fill_to-first.result = record { count = c.fill_to-first.ensures.used; items = ap (λ b. b.items) c.fill_to-first.ensures.items } in
    bad_frame _ _ _ _ first (omega arith) (sym c.in_default.ensures.size)

pub returns-then-len-size-clause-frame : goal.returns-then-len-size-clause-frame
returns-then-len-size-clause-frame g c =
    let first : First c.args.ring.now.items c.args.piece.now c.fill_to-first.new.ring.items c.fill_to-first.result = record { count = c.fill_to-first.ensures.used; items = ap (λ b. b.items) c.fill_to-first.ensures.items } in
    let count : c.fill_to.result ≡ min (length (drop c.fill_to-first.result c.args.piece.now)) (c.in-Some.size - length c.fill_to-first.new.ring.items) = rw (← c.split_at.ensures.back) c.fill_to.ensures.used in
    let items : c.fill_to.new.ring.items ≡ c.fill_to-first.new.ring.items ++ take c.fill_to.result (drop c.fill_to-first.result c.args.piece.now) = rw (← c.split_at.ensures.back) (ap (λ b. b.items) c.fill_to.ensures.items) in
    ap (λ n. NeedMore (c.in-Some.size - n)) c.len-then-len-size.ensures.len ∙ below_frame _ _ _ _ first c.in-Some.size c.fill_to.result c.fill_to.new.ring.items (omega arith) (sym c.in-Some.ensures.size) count items (omega arith)

pub returns-clause-frame : goal.returns-clause-frame
returns-clause-frame g c =
    let first : First c.args.ring.now.items c.args.piece.now c.fill_to-first.new.ring.items c.fill_to-first.result = record { count = c.fill_to-first.ensures.used; items = ap (λ b. b.items) c.fill_to-first.ensures.items } in
    let count : c.fill_to.result ≡ min (length (drop c.fill_to-first.result c.args.piece.now)) (c.in-Some.size - length c.fill_to-first.new.ring.items) = rw (← c.split_at.ensures.back) c.fill_to.ensures.used in
    let items : c.fill_to.new.ring.items ≡ c.fill_to-first.new.ring.items ++ take c.fill_to.result (drop c.fill_to-first.result c.args.piece.now) = rw (← c.split_at.ensures.back) (ap (λ b. b.items) c.fill_to.ensures.items) in
    whole_frame _ _ _ _ first c.in-Some.size c.fill_to.result c.fill_to.new.ring.items (omega arith) (sym c.in-Some.ensures.size) count items (omega arith)

pub returns-clause-gathers : goal.returns-clause-gathers
returns-clause-gathers g c =
    let first : First c.args.ring.now.items c.args.piece.now c.fill_to-first.new.ring.items c.fill_to-first.result = record { count = c.fill_to-first.ensures.used; items = ap (λ b. b.items) c.fill_to-first.ensures.items } in
    let count : c.fill_to.result ≡ min (length (drop c.fill_to-first.result c.args.piece.now)) (c.in-Some.size - length c.fill_to-first.new.ring.items) = rw (← c.split_at.ensures.back) c.fill_to.ensures.used in
    let items : c.fill_to.new.ring.items ≡ c.fill_to-first.new.ring.items ++ take c.fill_to.result (drop c.fill_to-first.result c.args.piece.now) = rw (← c.split_at.ensures.back) (ap (λ b. b.items) c.fill_to.ensures.items) in
    gathers _ _ _ _ first c.in-Some.size c.fill_to.result c.fill_to.new.ring.items (omega arith) (sym c.in-Some.ensures.size) count items c.requires.partial c.in-Some.ensures.bounds.0 c.in-Some.ensures.bounds.1 (omega arith)
