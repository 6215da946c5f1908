-- A run of a cut: what it comes to, and what its fault says of the network, of what is out, and of the devices.
use Rattle.std.specs.Prelude.{option_map, ⊤}
use Rattle.std.proofs.Common.{◌≡◌, ℕ, List, [], ◌∷◌, ◌++◌, ◌⊎◌, inl, inr, Bool, false, refl, sym, ◌∙◌, subst, Option, None, Some, append_assoc}
use Rattle.ts_packet.specs.Packets.{packets_of}
use Rattle.ts_packet.specs.Runs.{Seen}
use Rattle.ts_packet.specs.FirstFault.{SaysBy}
use Rattle.ts_packet.specs.declared.tally.Tally.{Tally}
use Rattle.ts_packet.specs.declared.reader.ReadFault.TheVariants as read_faults
use Rattle.ts_packet.specs.declared.sink.PutFault.{PutFault}
use Rattle.ts_packet.proofs.FirstFaultLemmas.{says_so}
use Rattle.packet_runs.specs.Stops.{Stopped, StopsBy, refusal_test, stop_cause}
use Rattle.packet_runs.specs.Runs.{GoesThrough, HasSent, BreaksNext, SourceBlamedAt, SinkBlamedAt}
use Rattle.packet_runs.specs.Runs as runs
use Rattle.packet_runs.specs.declared.run.Stop.{Stop}
use Rattle.packet_runs.specs.declared.run.Stop.TheVariants as stops
use Rattle.packet_runs.proofs.StopLemmas.{stopped_as, none_as}
use Rattle.unit_stream.specs.Faults.{unit_fault}
use Rattle.unit_stream.specs.declared.fault.UnitFault.{UnitFault}
use Rattle.unit_stream.specs.declared.fault.UnitFault.TheVariants as unit_faults
use Rattle.unit_cut.specs.Cutting.{cut_between}
use Rattle.unit_cut.specs.FirstFault.{first_fault, before_fault, as_cut_fault, fault_of_stop, cut_test, cut_cause}
use Rattle.unit_cut.specs.Runs.{CutsAll, FrontIsOut, Leaves, Says, Stops, NetworkBlamed, OutputBlamed, HasCut, AddsOne, cut_of}
use Rattle.unit_cut.specs.declared.cutting.Cutting.{Cutting}
use Rattle.unit_cut.specs.declared.run.CutFault.{CutFault}
use Rattle.unit_cut.specs.declared.run.CutFault.TheVariants.{Read, Scrambled, HeaderSplit, TimeJump, Sink}
use Rattle.unit_cut.proofs.RunLemmas.{is_cut_of, front_of, front_fails}

-- ---- the faults of a run, by their names in a cut

-- what a cut refuses, sends and puts: a stage's words
abbrev pub refusal : Cutting → Seen → Option UnitFault
refusal first s = unit_fault (first.cutter.pid ∷ []) s.packet s.past

abbrev pub sends : Cutting → List (List ℕ) → List (List ℕ) → List ℕ → Cutting → Type 0
sends first ps stay kept now = HasCut first.cutter ps stay kept now.cutter

abbrev pub refuses : Cutting → List (List ℕ) → List (List ℕ) → List ℕ → Cutting → Type 0
refuses first ps stay p now = stay ≡ cut_of first.cutter ps

abbrev pub breaks : Cutting → List (List ℕ) → Option (List ℕ) → List (List ℕ) → List ℕ → Cutting → Type 0
breaks first ps next stay q now = AddsOne first.cutter ps next stay q

abbrev pub ends : Cutting → List (List ℕ) → List (List ℕ) → ⊤ → Cutting → Type 0
ends first ps stay report now = stay ≡ cut_of first.cutter ps

test_as : (o : Option UnitFault) → option_map as_cut_fault o ≡ option_map fault_of_stop (option_map stops.Packet o)
test_as None = refl
test_as (Some why) = refl

cause_as : (f : Stop UnitFault) → cut_cause (fault_of_stop f) ≡ stop_cause f
cause_as (stops.Read fault) = refl
cause_as (stops.Packet unit_faults.Scrambled) = refl
cause_as (stops.Packet unit_faults.HeaderSplit) = refl
cause_as (stops.Packet unit_faults.TimeJump) = refl
cause_as (stops.Sink fault) = refl

pub turns_as : (f : Stop UnitFault) → fault_of_stop f ≡ Read read_faults.Turns → f ≡ stops.Read read_faults.Turns
turns_as (stops.Read fault) e = cc
turns_as (stops.Packet unit_faults.Scrambled) e = absurd (cc)
turns_as (stops.Packet unit_faults.HeaderSplit) e = absurd (cc)
turns_as (stops.Packet unit_faults.TimeJump) e = absurd (cc)
turns_as (stops.Sink fault) e = absurd (cc)

-- ---- the run went through, or stopped

-- what is said of a cutter's own PID, begin and length is so of those that it was made with
by_values : (P : ℕ → ℕ → ℕ → Type 0) (a b c a' b' c' : ℕ) → a ≡ a' → b ≡ b' → c ≡ c' → P a b c → P a' b' c'
by_values P a b c a' b' c' e f g h = subst (λ x. P x b' c') e (subst (λ y. P a y c') f (subst (λ z. P a b z) g h))

module _ (first now : Cutting) (pid from len : ℕ) (pid_is : first.cutter.pid ≡ pid) (from_is : first.cutter.timing.from ≡ from) (length_is : first.cutter.timing.length ≡ len)
    (is_out : List (List ℕ) → Type 0) where
  abbrev whole : List ℕ → List (List ℕ)
  whole bs = cut_of first.cutter (packets_of bs)

  pub cuts_all : (input : Option (List ℕ)) → GoesThrough (refusal first) (ends first) input tt now is_out → CutsAll pid from len input is_out
  cuts_all None h = tt
  cuts_all (Some bs) h =
      by_values (λ p f l. CutsAll p f l (Some bs) is_out) _ _ _ _ _ _ pid_is from_is length_is (
        none_as fault_of_stop stops.Read Read (refusal_test (refusal first)) (cut_test first.cutter.pid) (λ f. refl) (λ s. test_as (refusal first s)) bs h.sound,
        subst is_out h.ends_so h.out,
      )

  module _ (fails : List (List ℕ) → List ℕ → PutFault → Type 0) (unsent : List (List ℕ) → PutFault → Type 0) where
    abbrev StopsSo : CutFault → List ℕ → Type 0
    StopsSo fault bs = Says fault first.cutter.pid first.cutter.timing.from first.cutter.timing.length bs is_out × Leaves fault (whole bs) is_out fails unsent

    -- the cut of these packets is out, and the fault stands behind them
    module _ (bs : List ℕ) (passed rest : List (List ℕ)) (parts : packets_of bs ≡ passed ++ rest) where
      abbrev IsBehind : CutFault → Type 0
      IsBehind fault = SaysBy (cut_cause fault) ((first_fault first.cutter.pid bs ≡ Some fault) × (before_fault first.cutter.pid bs ≡ passed))

      said : (fault : CutFault) → IsBehind fault → is_out (cut_of first.cutter passed) → Says fault first.cutter.pid first.cutter.timing.from first.cutter.timing.length bs is_out
      said fault h o = says_so (cut_cause fault) (λ w. record { first = w.0; before = subst (λ l. is_out (cut_of first.cutter l)) (sym w.1) o }) h

      front : is_out (cut_of first.cutter passed) → FrontIsOut (whole bs) is_out
      front o = front_of first.cutter.pid first.cutter.timing.from first.cutter.timing.length bs passed rest is_out parts o

      by_unit : (why : UnitFault) → IsBehind (as_cut_fault why) → is_out (cut_of first.cutter passed) → StopsSo (as_cut_fault why) bs
      by_unit unit_faults.Scrambled h o = (said Scrambled h o, front o)
      by_unit unit_faults.HeaderSplit h o = (said HeaderSplit h o, front o)
      by_unit unit_faults.TimeJump h o = (said TimeJump h o, front o)

    -- what the sink has of it
    by_sink : (fault : PutFault) (none : Type 0) (bs : List ℕ) (passed rest : List (List ℕ)) → packets_of bs ≡ passed ++ rest
        → BreaksNext breaks fault none first passed rest now fails ⊎ HasSent sends first passed now (λ l. unsent l fault) → Leaves (Sink fault) (whole bs) is_out fails unsent
    by_sink fault none bs passed [] e (inl k) = absurd k.1.breaks_so
    by_sink fault none bs passed (p ∷ more) e (inl k) =
        inl (front_fails first.cutter.pid first.cutter.timing.from first.cutter.timing.length bs (passed ++ p ∷ []) more k.sent k.packet (λ l r. fails l r fault)
        (e ∙ sym (append_assoc passed (p ∷ []) more)) k.breaks_so k.failed)
    by_sink fault none bs passed rest e (inr k) =
        inr (front_of first.cutter.pid first.cutter.timing.from first.cutter.timing.length bs passed rest (λ l. unsent l fault) e
        (subst (λ l. unsent l fault) (is_cut_of first.cutter now.cutter passed k.sent k.kept k.sends_it) k.out))

    abbrev left_by : Stop UnitFault → List ℕ → List (List ℕ) → List (List ℕ) → Type 0
    left_by f = runs.Leaves sends refuses breaks refusal f first now is_out fails unsent

    by_name : (f : Stop UnitFault) (bs : List ℕ) → Stopped Read (cut_test first.cutter.pid) cut_cause (fault_of_stop f) bs (left_by f) → StopsSo (fault_of_stop f) bs
    by_name (stops.Read fault) bs h =
        let o = subst is_out (is_cut_of first.cutter now.cutter h.passed h.left.sent h.left.kept h.left.sends_it) h.left.out in
        (said bs h.passed h.rest h.parts (Read fault) h.says o, front bs h.passed h.rest h.parts o)
    by_name (stops.Packet why) bs h =
        let (p, more, e, r) = h.left in
        by_unit bs h.passed h.rest h.parts why h.says (subst is_out r.refuses_it r.out)
    by_name (stops.Sink fault) bs h = (tt, by_sink fault _ bs h.passed h.rest h.parts h.left)

    pub stops_at : (f : Stop UnitFault) (input : Option (List ℕ)) → StopsBy stops.Read (refusal_test (refusal first)) stop_cause f input (left_by f)
        → Stops (fault_of_stop f) pid from len input is_out fails unsent
    stops_at f None h = tt
    stops_at f (Some bs) h =
        by_values (λ p r l. Stops (fault_of_stop f) p r l (Some bs) is_out fails unsent) _ _ _ _ _ _ pid_is from_is length_is
        (by_name f bs (stopped_as fault_of_stop stops.Read Read (refusal_test (refusal first)) (cut_test first.cutter.pid) (λ g. refl) (λ s. test_as (refusal first s))
        stop_cause cut_cause f (cause_as f) bs (left_by f) (left_by f) (λ passed rest l. l) h))

-- ---- what the devices did

pub network_blamed : (f : Stop UnitFault) (before ended : Bool) (old new : Tally) → SourceBlamedAt false f before ended old new → NetworkBlamed (fault_of_stop f) before ended old new
network_blamed (stops.Read fault) before ended old new h = h
network_blamed (stops.Packet unit_faults.Scrambled) before ended old new h = h
network_blamed (stops.Packet unit_faults.HeaderSplit) before ended old new h = h
network_blamed (stops.Packet unit_faults.TimeJump) before ended old new h = h
network_blamed (stops.Sink fault) before ended old new (inl h) = h
network_blamed (stops.Sink fault) before ended old new (inr h) = absurd (let e = h.0 in cc)

pub output_blamed : (f : Stop UnitFault) (old new : Tally) (full : Bool) → SinkBlamedAt f old new full → OutputBlamed (fault_of_stop f) old new full
output_blamed (stops.Read fault) old new full h = h
output_blamed (stops.Packet unit_faults.Scrambled) old new full h = h
output_blamed (stops.Packet unit_faults.HeaderSplit) old new full h = h
output_blamed (stops.Packet unit_faults.TimeJump) old new full h = h
output_blamed (stops.Sink fault) old new full h = h

-- ---- what follows from what is out

module _ (is_out is_out' : List (List ℕ) → Type 0) (fails fails' : List (List ℕ) → List ℕ → PutFault → Type 0) (unsent unsent' : List (List ℕ) → PutFault → Type 0)
    (out_so : (ps : List (List ℕ)) → is_out ps → is_out' ps) (fails_on : (ps : List (List ℕ)) (p : List ℕ) (f : PutFault) → fails ps p f → fails' ps p f)
    (unsent_so : (ps : List (List ℕ)) (f : PutFault) → unsent ps f → unsent' ps f) where
  front_so : (whole : List (List ℕ)) → FrontIsOut whole is_out → FrontIsOut whole is_out'
  front_so whole (front, more, e, h) = (front, more, e, out_so front h)

  leaves_so : (fault : CutFault) (whole : List (List ℕ)) → Leaves fault whole is_out fails unsent → Leaves fault whole is_out' fails' unsent'
  leaves_so (Read f) whole h = front_so whole h
  leaves_so Scrambled whole h = front_so whole h
  leaves_so HeaderSplit whole h = front_so whole h
  leaves_so TimeJump whole h = front_so whole h
  leaves_so (Sink f) whole (inl (front, p, more, e, h)) = inl (front, p, more, e, fails_on front p f h)
  leaves_so (Sink f) whole (inr (front, more, e, h)) = inr (front, more, e, unsent_so front f h)

  pub stops_so : (fault : CutFault) (pid from len : ℕ) (input : Option (List ℕ)) → Stops fault pid from len input is_out fails unsent → Stops fault pid from len input is_out' fails' unsent'
  stops_so fault pid from len None h = tt
  stops_so fault pid from len (Some bs) h =
      (says_so (cut_cause fault) (λ i. record { first = i.first; before = out_so _ i.before }) h.0, leaves_so fault (cut_between from len pid (packets_of bs)) h.1)

pub cuts_so : (is_out is_out' : List (List ℕ) → Type 0) → ((ps : List (List ℕ)) → is_out ps → is_out' ps) → (pid from len : ℕ) (input : Option (List ℕ)) → CutsAll pid from len input is_out → CutsAll pid from len input is_out'
cuts_so is_out is_out' f pid from len None h = tt
cuts_so is_out is_out' f pid from len (Some bs) h = (h.0, f _ h.1)
