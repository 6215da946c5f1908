-- A cut on its way, packet by packet, and what is out of it behind a front of the packets.
use Rattle.std.specs.Prelude.{ℤ, IfSome, Result, Ok, Err, OnOk, Bool, true, false, if◌then◌else◌}
use Rattle.std.proofs.Common.{◌≡◌, ℕ, List, [], ◌∷◌, ◌++◌, refl, sym, ap, ◌∙◌, subst, Option, None, Some, reverse, append_assoc}
use Rattle.std.proofs.lemmas.List.{reverse-append}
use Rattle.pes_time.specs.Line.{lift}
use Rattle.ts_packet.specs.Fields.{payload_on}
use Rattle.ts_packet.specs.Following.{kept_after}
use Rattle.ts_packet.specs.Packets.{packets_of}
use Rattle.packet_runs.specs.Stages.{kept_by}
use Rattle.unit_stream.specs.Fates.{steps, numbered}
use Rattle.unit_stream.specs.Times.{first_time}
use Rattle.unit_stream.specs.Faults.{unit_fault}
use Rattle.unit_stream.specs.declared.fault.UnitFault.{UnitFault}
use Rattle.unit_cut.specs.Cutting.{cut_between, begin_of}
use Rattle.unit_cut.specs.Standing.{Cut, CutterStandsFor, CutAnswers, Begins, goes_by}
use Rattle.unit_cut.specs.Runs.{FrontIsOut, NextFails, IsCutOf, cut_by, HasCut, AddsOne, cut_of}
use Rattle.unit_cut.specs.declared.cutter.Cutter.{Cutter}
use Rattle.unit_cut.proofs.GrowLemmas.{between_grows}
use Rattle.unit_cut.proofs.CutterLemmas.{begins_before}
use Rattle.unit_cut.proofs.PassLemmas.{cut_kept, cut_dropped}

-- ---- the cut of these packets

pub reverse-snoc : (ps : List (List ℕ)) (p : List ℕ) → reverse (ps ++ p ∷ []) ≡ p ∷ reverse ps
reverse-snoc ps p = reverse-append ps (p ∷ [])

-- the cut whose begin these packets place
abbrev pub the_cut : ℕ → ℕ → ℕ → List (List ℕ) → Cut
the_cut pid from len ps = record { pid = pid; from = from; begin = begin_of from (first_time (pid ∷ []) (reverse ps)); length = len }

placed : (from : ℕ) (first : Option ℤ) → IfSome first (λ f. begin_of from first ≡ lift f from)
placed from None = tt
placed from (Some f) = refl

pub is_the_cut : (pid from len : ℕ) (ps : List (List ℕ)) → IsCutOf (the_cut pid from len ps) pid from len ps
is_the_cut pid from len ps = record { pid_is = refl; from_is = refl; length_is = refl; begins = placed from (first_time (pid ∷ []) (reverse ps)) }

-- a cut of more packets is one of fewer
pub cut_of_fewer : (k : Cut) (pid from len : ℕ) (ps : List (List ℕ)) (p : List ℕ) → IsCutOf k pid from len (ps ++ p ∷ []) → Begins k (p ∷ reverse ps) × IsCutOf k pid from len ps
cut_of_fewer k pid from len ps p h =
    let b : Begins k (p ∷ reverse ps) = subst (Begins k) (reverse-snoc ps p) h.begins in
    (b, record { pid_is = h.pid_is; from_is = h.from_is; length_is = h.length_is; begins = begins_before k p (reverse ps) b })

-- ---- packet by packet

-- the begin
pub cut_none : (cutter : Cutter) (pid from len : ℕ) → ((kept : List ℕ) (k : Cut) → k.pid ≡ pid → k.from ≡ from → k.length ≡ len → CutterStandsFor cutter kept k [])
    → (cutter.pid ≡ pid) × (cutter.timing.from ≡ from) × (cutter.timing.length ≡ len) × ((kept : List ℕ) → HasCut cutter [] [] kept cutter)
cut_none cutter pid from len h =
    let at = h [] (the_cut pid from len []) refl refl refl in
    (at.same, at.timing.from, at.timing.length, λ kept k i. (h kept k (i.pid_is ∙ at.same) (i.from_is ∙ at.timing.from) (i.length_is ∙ at.timing.length), refl))

module _ (first old now : Cutter) (ps stay : List (List ℕ)) (p q kept : List ℕ) (h : HasCut first ps stay kept old) where
  -- what a cutter answers to one packet more, and stands for then
  abbrev pub Fed : Result Bool UnitFault → Type 0
  Fed answer = (k : Cut) → Begins k (p ∷ reverse ps) → CutterStandsFor old kept k (reverse ps)
      → CutAnswers k p (reverse ps) answer q × OnOk answer (CutterStandsFor now (kept_after k.pid p q kept) k (p ∷ reverse ps))

  abbrev now_cut : Cut
  now_cut = the_cut first.pid first.timing.from first.timing.length (ps ++ p ∷ [])

  at_cut : (answer : Result Bool UnitFault) → Fed answer → (k : Cut) → IsCutOf k first.pid first.timing.from first.timing.length (ps ++ p ∷ [])
      → CutAnswers k p (reverse ps) answer q × OnOk answer (CutterStandsFor now (kept_after k.pid p q kept) k (p ∷ reverse ps)) × (stay ≡ cut_by k ps) × (old.pid ≡ k.pid)
  at_cut answer f k i =
      let (b, j) = cut_of_fewer k first.pid first.timing.from first.timing.length ps p i in
      let at = h k j in
      let one = f k b at.0 in
      (one.0, one.1, at.1, at.0.same)

  at_now : (answer : Result Bool UnitFault) → Fed answer → CutAnswers now_cut p (reverse ps) answer q × (stay ≡ cut_by now_cut ps)
  at_now answer f = let at = at_cut answer f now_cut (is_the_cut first.pid first.timing.from first.timing.length (ps ++ p ∷ [])) in (at.0, at.2)

  -- it stays, and stands behind those before it that stay
  pub adds : Fed (Ok true) → AddsOne first ps (Some p) stay q
  adds f =
      let (a, same) = at_now (Ok true) f in
      cut_kept (goes_by now_cut) (first.pid ∷ []) first.pid ps p a.1 ∙ ap (λ l. l ++ numbered first.pid p (steps (goes_by now_cut) (first.pid ∷ []) first.pid (reverse ps)) ∷ []) (sym same)
      ∙ ap (λ r. stay ++ r ∷ []) (sym a.2)

  -- it is refused
  pub refused : (why : UnitFault) → Fed (Err why) → unit_fault (first.pid ∷ []) p (reverse ps) ≡ Some why
  refused why f = (at_now (Err why) f).0

  -- the packet that is kept then
  kept_so : (b : Bool) → (if b then q else kept) ≡ kept_by b q kept
  kept_so true = refl
  kept_so false = refl

  stands : (is_last : Bool) → is_last ≡ payload_on old.pid p → (k : Cut) → old.pid ≡ k.pid → CutterStandsFor now (kept_after k.pid p q kept) k (p ∷ reverse ps)
      → CutterStandsFor now (kept_by is_last q kept) k (reverse (ps ++ p ∷ []))
  stands is_last l k same s =
      let turned : kept_after k.pid p q kept ≡ kept_by is_last q kept = ap (λ n. kept_after n p q kept) (sym same) ∙ ap (λ b. if b then q else kept) (sym l) ∙ kept_so is_last in
      subst (λ r. CutterStandsFor now r k (reverse (ps ++ p ∷ []))) turned (subst (CutterStandsFor now (kept_after k.pid p q kept) k) (sym (reverse-snoc ps p)) s)

  module _ (is_last : Bool) (last : is_last ≡ payload_on old.pid p) where
    -- what was cut so far, where it stays, and where it goes
    pub stays : Fed (Ok true) → (unit_fault (first.pid ∷ []) p (reverse ps) ≡ None) × HasCut first (ps ++ p ∷ []) (stay ++ q ∷ []) (kept_by is_last q kept) now
    stays f = (
      (at_now (Ok true) f).0.0,
      λ k i.
          let (a, s, same, on) = at_cut (Ok true) f k i in (
            stands is_last last k on s,
            sym (cut_kept (goes_by k) (k.pid ∷ []) k.pid ps p a.1 ∙ ap (λ l. l ++ numbered k.pid p (steps (goes_by k) (k.pid ∷ []) k.pid (reverse ps)) ∷ []) (sym same)
                ∙ ap (λ r. stay ++ r ∷ []) (sym a.2)),
          ),
    )

    pub goes : Fed (Ok false) → (unit_fault (first.pid ∷ []) p (reverse ps) ≡ None) × HasCut first (ps ++ p ∷ []) stay (kept_by is_last q kept) now
    goes f = (
      (at_now (Ok false) f).0.0,
      λ k i.
          let (a, s, same, on) = at_cut (Ok false) f k i in
          (stands is_last last k on s, same ∙ sym (cut_dropped (goes_by k) (k.pid ∷ []) k.pid ps p a.1)),
    )

-- what stays of these packets so far is their cut
pub is_cut_of : (first now : Cutter) (ps stay : List (List ℕ)) (kept : List ℕ) → HasCut first ps stay kept now → stay ≡ cut_of first ps
is_cut_of first now ps stay kept h = (h (the_cut first.pid first.timing.from first.timing.length ps) (is_the_cut first.pid first.timing.from first.timing.length ps)).1

-- ---- a fault: what is out

-- the cut of some packets at the front is out
pub front_of : (pid from len : ℕ) (bs : List ℕ) (ps qs : List (List ℕ)) (is_out : List (List ℕ) → Type 0) → packets_of bs ≡ ps ++ qs → is_out (cut_between from len pid ps)
    → FrontIsOut (cut_between from len pid (packets_of bs)) is_out
front_of pid from len bs ps qs is_out e w =
    let (more, g) = between_grows from len pid ps qs in (cut_between from len pid ps, more, ap (cut_between from len pid) e ∙ g, w)

-- and the packet behind them was not taken
pub front_fails : (pid from len : ℕ) (bs : List ℕ) (ps qs rs : List (List ℕ)) (q : List ℕ) (fails : List (List ℕ) → List ℕ → Type 0) → packets_of bs ≡ ps ++ qs → cut_between from len pid ps ≡ rs ++ q ∷ []
    → fails rs q → NextFails (cut_between from len pid (packets_of bs)) fails
front_fails pid from len bs ps qs rs q fails e c w =
    let (more, g) = between_grows from len pid ps qs in
    (rs, q, more, ap (cut_between from len pid) e ∙ g ∙ ap (λ l. l ++ more) c ∙ append_assoc rs (q ∷ []) more, w)
