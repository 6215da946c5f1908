-- Packets that are lost or doubled.
use Rattle.std.proofs.Common.{◌≡◌, ℕ, zero, suc, ◌+◌, ◌%◌, ◌<◌, ◌≤◌, ◌==◌, Bool, true, false, not, ◌&&◌, if◌then◌else◌, ◌⊎◌, inl, inr, refl, sym, ap, ◌∙◌, subst, List, [], ◌∷◌, ◌++◌, length, cond, lt-ltb, arith}
use Rattle.std.proofs.lemmas.Bool.Decides.{nat_tests}
use Rattle.std.specs.Prelude.{ℤ, map, nat_lt, Option, Some}
use Rattle.std.specs.List.{AllByRecursion}
use Rattle.std.proofs.lemmas.Bool.{eq-eqb}
use Rattle.ts_packet.specs.Fields.{alike}
use Rattle.ts_packet.specs.Duplicates.{repeats}
use Rattle.ts_packet.specs.Runs.{onto}
use Rattle.ts_packet.proofs.Cases.{by_test}
use Rattle.ts_packet.proofs.FieldLemmas.{off_payload}
use Rattle.ts_packet.proofs.RunLemmas.{onto-append}
use Rattle.psi_section.specs.Sections.{sections_after}
use Rattle.psi_section.specs.Packetising.{first_packet, packets_in_turn}
use Rattle.psi_tables.specs.declared.config.Config.{Config}
use Rattle.scte35_codec.specs.declared.cue_out.CueOut.{CueOut}
use Rattle.scte35_codec.specs.declared.cue_out.CueOut.TheVariants.{Start, Cancel, End}
use Rattle.scte35_codec.specs.Spelling.{cue_bytes, Fits}
use Rattle.scte35_codec.proofs.GivenLemmas.{cue_fits}
use Rattle.program_follower.specs.Program.{listed, tables}
use Rattle.program_laws.specs.Writing.{number_on, body, Off}
use Rattle.program_laws.specs.Cued.{On, cueing}
use Rattle.program_laws.proofs.PacketLemmas.{one_past-below}
use Rattle.injector.specs.Steps.{Step, Message, Packet, packets_in, turns_in, cued}
use Rattle.cue_laws.specs.Events.{Turn as LineTurn, Passed as LinePassed, upon}
use Rattle.cue_laws.specs.Thinning.{times, TellsAgain, IsToldBefore, LeavesOne, LeavesOutRepeats}
use Rattle.cue_laws.specs.Laws.{KeepsEnoughOf}
use Rattle.cue_laws.proofs.Repeats.{repeats_lose_nothing}
use Rattle.path_laws.specs.Path.{Item, Sent, Packet as Passing, high_on, sent_onto, line_of, line, asked_line}
use Rattle.path_laws.specs.Packets.{IsRunOf, cues_at, sent_in, kept, stream, BringsCues}
use Rattle.path_laws.specs.Thinning.{thin, last_left, AreToldApart, next_cue_number, IsThinned, sections_of, AreGiven, GivesSections, ThinnedBrings, ThinnedOfAll, ThinnedCuePath}
use Rattle.path_laws.proofs.Packets.{run-message, run-packet, run-history, cues-fit, place-off}
use Rattle.path_laws.proofs.Proofs.{requests_are_a_run, cues_tell_the_line}
use Rattle.path_laws.proofs.Streams.{times-turn}
use Rattle.path_laws.proofs.Copies.{sections-none, sections-some, copies-give, repeated-gives, copies-on}
use Rattle.path_laws.proofs.Whole.{run-front, cue_path_in_packets}

-- ---- a table of how many sections each cue gives, newest first, in step with what goes over the path: a packet gives none

abbrev numbers_onto : ℕ → (List LineTurn → ℕ) → List Item → ℕ → List (List ℕ) → List ℕ → List CueOut → List ℕ
numbers_onto pid copies items n out gs [] = gs
numbers_onto pid copies items n out gs (cue ∷ cues) =
    numbers_onto pid copies (Sent cue ∷ items) ((n + 1) % 16) (times (copies (line (Sent cue ∷ items))) (first_packet pid n (cue_bytes cue)) out)
    (sections_of (repeats pid (first_packet pid n (cue_bytes cue)) out) (copies (line (Sent cue ∷ items))) ∷ gs) cues

abbrev numbers : Config → (List LineTurn → ℕ) → (List ℕ → List (List ℕ) → List (List ℕ)) → List Step → List ℕ
numbers c copies fronts [] = []
numbers c copies fronts (Message m ∷ past) = numbers c copies fronts past
numbers c copies fronts (Packet p ∷ past) =
    0 ∷ numbers_onto c.cue_pid copies (sent_in c past) (next_cue_number c past) (stream c fronts past) (numbers c copies fronts past) (cues_at c p past)

-- the choice is that of the table
abbrev AsMany : (List LineTurn → ℕ) → List Item → List ℕ → Type 0
AsMany given [] [] = Unit {0}
AsMany given [] (g ∷ gs) = ⊥
AsMany given (i ∷ items) [] = ⊥
AsMany given (i ∷ items) (g ∷ gs) = (given (line (i ∷ items)) ≡ g) × AsMany given items gs

many-front : (pid : ℕ) (copies given : List LineTurn → ℕ) (items : List Item) (n : ℕ) (out : List (List ℕ)) (gs : List ℕ) (cues : List CueOut)
    → AsMany given (sent_onto items cues) (numbers_onto pid copies items n out gs cues) → AsMany given items gs
many-front pid copies given items n out gs [] h = h
many-front pid copies given items n out gs (cue ∷ cues) h =
    (many-front pid copies given (Sent cue ∷ items) ((n + 1) % 16) (times (copies (line (Sent cue ∷ items))) (first_packet pid n (cue_bytes cue)) out)
    (sections_of (repeats pid (first_packet pid n (cue_bytes cue)) out) (copies (line (Sent cue ∷ items))) ∷ gs) cues h).1

-- ---- the choice that a table makes, and this other one of all that came later

abbrev looked_up : (List LineTurn → ℕ) → List ℕ → List LineTurn → ℕ
looked_up later [] t = later t
looked_up later (g ∷ gs) t = if length t == suc (length gs) then g else looked_up later gs t

line-length : (items : List Item) → length (line items) ≡ length items
line-length [] = refl
line-length (Sent cue ∷ items) = ap suc (line-length items)
line-length (Passing h ∷ items) = ap suc (line-length items)

off-test : (n m : ℕ) → n < m → (n == m) ≡ false
off-test n m less = grind (arith, nat_tests)

past-test : (n m : ℕ) → m < n → (n == m) ≡ false
past-test n m less = grind (arith, nat_tests)

some-test : (n : ℕ) → 0 < n → nat_lt 0 n ≡ true
some-test n some = lt-ltb 0 n some

looked-later : (later : List LineTurn → ℕ) (g : ℕ) (gs : List ℕ) (items : List Item) (hs : List ℕ) → length items ≤ length gs → AsMany (looked_up later gs) items hs → AsMany (looked_up later (g ∷ gs)) items hs
looked-later later g gs [] [] l h = tt
looked-later later g gs [] (x ∷ hs) l h = h
looked-later later g gs (i ∷ items) [] l h = h
looked-later later g gs (i ∷ items) (x ∷ hs) l h =
    let size : length (line (i ∷ items)) ≡ suc (length items) = line-length (i ∷ items) in
    let off = off-test (length (line (i ∷ items))) (suc (length gs)) (omega arith) in
    (ap (λ b. cond b g (looked_up later gs (line (i ∷ items)))) off ∙ h.0, looked-later later g gs items hs (omega arith) h.1)

looked-many : (later : List LineTurn → ℕ) (items : List Item) (gs : List ℕ) → length items ≡ length gs → AsMany (looked_up later gs) items gs
looked-many later [] [] s = tt
looked-many later [] (g ∷ gs) s = absurd (omega arith)
looked-many later (i ∷ items) [] s = absurd (omega arith)
looked-many later (i ∷ items) (g ∷ gs) s =
    let here = eq-eqb (length (line (i ∷ items))) (suc (length gs)) (line-length (i ∷ items) ∙ s) in
    let rest : length items ≡ length gs = omega arith in
    (ap (λ b. cond b g (looked_up later gs (line (i ∷ items)))) here, looked-later later g gs items gs (omega arith) (looked-many later items gs rest))

looked-past : (later : List LineTurn → ℕ) (gs : List ℕ) (t : List LineTurn) → length gs < length t → looked_up later gs t ≡ later t
looked-past later [] t l = refl
looked-past later (g ∷ gs) t l =
    let off = past-test (length t) (suc (length gs)) l in
    ap (λ b. cond b g (looked_up later gs t)) off ∙ looked-past later gs t (omega arith)

numbers-onto-length : (pid : ℕ) (copies : List LineTurn → ℕ) (items : List Item) (n : ℕ) (out : List (List ℕ)) (gs : List ℕ) (cues : List CueOut) → length items ≡ length gs
    → length (sent_onto items cues) ≡ length (numbers_onto pid copies items n out gs cues)
numbers-onto-length pid copies items n out gs [] s = s
numbers-onto-length pid copies items n out gs (cue ∷ cues) s =
    numbers-onto-length pid copies (Sent cue ∷ items) ((n + 1) % 16) (times (copies (line (Sent cue ∷ items))) (first_packet pid n (cue_bytes cue)) out)
    (sections_of (repeats pid (first_packet pid n (cue_bytes cue)) out) (copies (line (Sent cue ∷ items))) ∷ gs) cues (ap suc s)

numbers-length : (c : Config) (copies : List LineTurn → ℕ) (fronts : List ℕ → List (List ℕ) → List (List ℕ)) (past : List Step) → length (sent_in c past) ≡ length (numbers c copies fronts past)
numbers-length c copies fronts [] = refl
numbers-length c copies fronts (Message m ∷ past) = numbers-length c copies fronts past
numbers-length c copies fronts (Packet p ∷ past) =
    ap suc (numbers-onto-length c.cue_pid copies (sent_in c past) (next_cue_number c past) (stream c fronts past) (numbers c copies fronts past) (cues_at c p past) (numbers-length c copies fronts past))

-- ---- what is left out is told again

leaves-cue : (copies given : List LineTurn → ℕ) (h : Option ℤ) (cue : CueOut) (past : List LineTurn) → LeavesOne copies given (line_of h cue) past → LeavesOutRepeats copies given past
    → LeavesOutRepeats copies given (line_of h cue ∷ past)
leaves-cue copies given h (Start event time duration program avail expected avails) past one rest = (one, rest)
leaves-cue copies given h (Cancel event) past one rest = (one, rest)
leaves-cue copies given h (End event time) past one rest = (one, rest)

-- what came up to the last cue that is left is a front of what came
last-front : (copies : List LineTurn → ℕ) (items : List Item) → (later : List LineTurn) × (line items ≡ upon later (last_left copies items))
last-front copies [] = ([], refl)
last-front copies (Passing h ∷ items) = let u = last-front copies items in (LinePassed h ∷ u.0, ap (λ l. LinePassed h ∷ l) u.1)
last-front copies (Sent cue ∷ items) = which (nat_lt 0 (copies (line (Sent cue ∷ items)))) (last-front copies items)
  where
    which : (b : Bool) → (later : List LineTurn) × (line items ≡ upon later (last_left copies items))
        → (later : List LineTurn) × (line (Sent cue ∷ items) ≡ upon later (if b then line (Sent cue ∷ items) else last_left copies items))
    which true u = ([], refl)
    which false u = (line_of (high_on items) cue ∷ u.0, ap (λ l. line_of (high_on items) cue ∷ l) u.1)

-- what stands of the choice behind these packets: what it leaves out is told again, and where the next packet is a duplicate, of the last
-- cue that was left a section was given
record Stands (pid : ℕ) (copies given : List LineTurn → ℕ) (items : List Item) (out : List (List ℕ)) : Type 0 where
  leaves : LeavesOutRepeats copies given (line items)
  last : (p : List ℕ) → repeats pid p out ≡ true → 0 < given (last_left copies items)

-- one cue more
module _ (pid : ℕ) (copies given : List LineTurn → ℕ) (items : List Item) (out : List (List ℕ)) (cue : CueOut) (n : ℕ) where
  abbrev q : List ℕ
  q = first_packet pid n (cue_bytes cue)

  abbrev now : List LineTurn
  now = line (Sent cue ∷ items)

  abbrev stale : Bool
  stale = repeats pid q out

  last-some : 0 < copies now → last_left copies (Sent cue ∷ items) ≡ now
  last-some some = ap (λ b. cond b now (last_left copies items)) (some-test (copies now) some)

  last-none : copies now ≡ 0 → last_left copies (Sent cue ∷ items) ≡ last_left copies items
  last-none none = ap (λ k. cond (nat_lt 0 k) now (last_left copies items)) none

  stands-cue : pid < 8192 → n < 16 → Fits cue → given now ≡ sections_of stale (copies now) → (0 < copies now → stale ≡ true → TellsAgain (last_left copies items) now)
      → Stands pid copies given items out → Stands pid copies given (Sent cue ∷ items) (times (copies now) q out)
  stands-cue pb nb fits many apart s = record { leaves = leaves-cue copies given (high_on items) cue (line items) (left_out, told) s.leaves; last = last }
    where
      left_out : 0 < given now → 0 < copies now
      left_out some = sections-none stale (copies now) (subst (λ k. 0 < k) many some)

      told : 0 < copies now → (0 < given now) ⊎ IsToldBefore given (line_of (high_on items) cue) (line items)
      told some =
          by_test stale
          (λ old. inr (let u = last-front copies items in (u.0, last_left copies items, u.1, s.last q old, apart some old)))
          (λ new. inl (subst (λ k. 0 < k) (sym many) (sections-some stale (copies now) new some)))

      last_by : (k : ℕ) → copies now ≡ k → (p : List ℕ) → repeats pid p (times k q out) ≡ true → 0 < given (last_left copies (Sent cue ∷ items))
      last_by zero is p old = subst (λ l. 0 < given l) (sym (last-none is)) (s.last p old)
      last_by (suc k) is p old =
          let gave : 0 < sections_of stale (suc k) = repeated-gives cue fits pid n pb nb stale (suc k) out p refl (omega arith) old in
          subst (λ l. 0 < given l) (sym (last-some (subst (λ k. 0 < k) (sym is) (omega arith))))
          (subst (λ k. 0 < k) (sym (many ∙ ap (sections_of stale) is)) gave)

      last : (p : List ℕ) → repeats pid p (times (copies now) q out) ≡ true → 0 < given (last_left copies (Sent cue ∷ items))
      last p old = last_by (copies now) refl p old

-- ---- all cues before a packet

map-times : (k : ℕ) (cue : CueOut) (cues : List CueOut) → map cue_bytes (times k cue cues) ≡ times k (cue_bytes cue) (map cue_bytes cues)
map-times zero cue cues = refl
map-times (suc k) cue cues = ap (λ l. cue_bytes cue ∷ l) (map-times k cue cues)

pub next-below : (n : ℕ) → (n + 1) % 16 < 16
next-below n = omega arith

onto-times : (k : ℕ) (q : List ℕ) (out rest : List (List ℕ)) → onto out (times k q rest) ≡ onto (times k q out) rest
onto-times zero q out rest = refl
onto-times (suc k) q out rest = onto-times k q (q ∷ out) rest ∙ ap (λ l. onto l rest) (times-turn k q out)

-- the reader finds the sections of the choice, and the choice stands behind them
stands-cues : (pid : ℕ) (copies given : List LineTurn → ℕ) (items : List Item) (n : ℕ) (out : List (List ℕ)) (gs : List ℕ) (cues : List CueOut) → pid < 8192 → n < 16 → AllByRecursion Fits cues
    → AsMany given (sent_onto items cues) (numbers_onto pid copies items n out gs cues) → AreToldApart pid copies items n out cues → Stands pid copies given items out
    → (sections_after out pid (thin pid copies items n cues) ≡ map cue_bytes (kept given items cues)) × Stands pid copies given (sent_onto items cues) (onto out (thin pid copies items n cues))
stands-cues pid copies given items n out gs [] pb nb fits many apart s = (refl, s)
stands-cues pid copies given items n out gs (cue ∷ cues) pb nb fits many apart s =
    let q = first_packet pid n (cue_bytes cue) in
    let now = line (Sent cue ∷ items) in
    let k = copies now in
    let g = sections_of (repeats pid q out) k in
    let here : given now ≡ g = (many-front pid copies given (Sent cue ∷ items) ((n + 1) % 16) (times k q out) (g ∷ gs) cues many).0 in
    let rest = stands-cues pid copies given (Sent cue ∷ items) ((n + 1) % 16) (times k q out) (g ∷ gs) cues pb (next-below n) fits.1 many apart.1
    (stands-cue pid copies given items out cue n pb nb fits.0 here apart.0 s) in (
      copies-give cue fits.0 pid n pb nb (repeats pid q out) k out (thin pid copies (Sent cue ∷ items) ((n + 1) % 16) cues) refl
          ∙ ap (times g (cue_bytes cue)) rest.0
          ∙ sym (map-times g cue (kept given (Sent cue ∷ items) cues))
          ∙ ap (λ j. map cue_bytes (times j cue (kept given (Sent cue ∷ items) cues))) (sym here),
      subst (Stands pid copies given (sent_onto (Sent cue ∷ items) cues)) (sym (onto-times k q out (thin pid copies (Sent cue ∷ items) ((n + 1) % 16) cues))) rest.1,
    )

-- each cue gives what the table says
given-cues : (pid : ℕ) (copies given : List LineTurn → ℕ) (items : List Item) (n : ℕ) (out : List (List ℕ)) (gs : List ℕ) (cues : List CueOut)
    → AsMany given (sent_onto items cues) (numbers_onto pid copies items n out gs cues) → AreGiven pid copies given items n out cues
given-cues pid copies given items n out gs [] many = tt
given-cues pid copies given items n out gs (cue ∷ cues) many =
    let q = first_packet pid n (cue_bytes cue) in
    let k = copies (line (Sent cue ∷ items)) in
    let g = sections_of (repeats pid q out) k in (
      (many-front pid copies given (Sent cue ∷ items) ((n + 1) % 16) (times k q out) (g ∷ gs) cues many).0,
      given-cues pid copies given (Sent cue ∷ items) ((n + 1) % 16) (times k q out) (g ∷ gs) cues many,
    )

given-past : (c : Config) (copies given : List LineTurn → ℕ) (fronts : List ℕ → List (List ℕ) → List (List ℕ)) (past : List Step)
    → AsMany given (sent_in c past) (numbers c copies fronts past) → GivesSections c copies given fronts past
given-past c copies given fronts [] many = tt
given-past c copies given fronts (Message m ∷ past) many = given-past c copies given fronts past many
given-past c copies given fronts (Packet p ∷ past) many =
    let items = sent_in c past in
    let n = next_cue_number c past in
    let out = stream c fronts past in
    let gs = numbers c copies fronts past in (
      given-cues c.cue_pid copies given items n out gs (cues_at c p past) many.1,
      given-past c copies given fronts past (many-front c.cue_pid copies given items n out gs (cues_at c p past) many.1),
    )

thin-on : (pid : ℕ) (copies : List LineTurn → ℕ) (items : List Item) (n : ℕ) (cues : List CueOut) → pid < 8192 → n < 16 → AllByRecursion Fits cues → AllByRecursion (On pid) (thin pid copies items n cues)
thin-on pid copies items n [] pb nb fits = tt
thin-on pid copies items n (cue ∷ cues) pb nb fits =
    copies-on cue fits.0 pid n pb nb (copies (line (Sent cue ∷ items))) (thin pid copies (Sent cue ∷ items) ((n + 1) % 16) cues) (thin-on pid copies (Sent cue ∷ items) ((n + 1) % 16) cues pb (next-below n) fits.1)

-- ---- the stream

-- packets of other PIDs change no duplicates
repeats-others : (pid : ℕ) (p : List ℕ) (out qs : List (List ℕ)) → AllByRecursion (Off pid) qs → repeats pid p (onto out qs) ≡ repeats pid p out
repeats-others pid p out [] off = refl
repeats-others pid p out (q ∷ qs) off =
    repeats-others pid p (q ∷ out) qs off.1 ∙ ap (λ b. cond b (alike q p && not (repeats pid q out)) (repeats pid p out)) (off_payload pid q off.0)

stands-past : (c : Config) (copies given : List LineTurn → ℕ) (fronts : List ℕ → List (List ℕ) → List (List ℕ)) (past : List Step) → IsRunOf c past → IsThinned c copies fronts past
    → AsMany given (sent_in c past) (numbers c copies fronts past) → BringsCues c given fronts past × Stands c.cue_pid copies given (sent_in c past) (stream c fronts past)
stands-past c copies given fronts [] r t many = (tt, record { leaves = tt; last = λ p old. absurd (let bad : false ≡ true = old in cc) })
stands-past c copies given fronts (Message m ∷ past) r t many = stands-past c copies given fronts past (run-message c m past r) t many
stands-past c copies given fronts (Packet p ∷ past) r t many =
    let pid = c.cue_pid in
    let items = sent_in c past in
    let n = next_cue_number c past in
    let out = stream c fronts past in
    let cues = cues_at c p past in
    let qs = fronts p (packets_in past) in
    let gs = numbers c copies fronts past in
    let nb = one_past-below (number_on c.cue_pid (cued c past)) in
    let fits = cues-fit c p past r in
    let rest = body (cueing pid fronts) (listed (Some c.program) (packets_in past)) p (packets_in past) (tables (Some c.program) p (packets_in past)) out in
    let before = stands-past c copies given fronts past (run-packet c p past r) t.2 (many-front pid copies given items n out gs cues many.1) in
    let here = stands-cues pid copies given items n out gs cues r.cue_pid nb fits many.1 t.1 before.1 in
    let off = place-off c fronts p (packets_in past) out (tables (Some c.program) p (packets_in past)) (listed (Some c.program) (packets_in past)) r.faultless refl in
    let same : (x : List ℕ) → repeats pid x (onto out (thin pid copies items n cues)) ≡ repeats pid x (onto out (qs ++ rest)) =
    λ x. ap (λ l. repeats pid x (onto out l)) (sym t.0) ∙ sym (repeats-others pid x (onto out qs) rest off) ∙ ap (repeats pid x) (sym (onto-append out qs rest)) in (
      (
        subst (AllByRecursion (On pid)) (sym t.0) (thin-on pid copies items n cues r.cue_pid nb fits),
        ap (sections_after out pid) t.0 ∙ here.0,
        before.0,
      ),
      record { leaves = here.1.leaves; last = λ x old. here.1.last x (same x ∙ old) },
    )

-- the choice of the table, and the first one of all that came later
thinned-gives : (c : Config) (copies : List LineTurn → ℕ) (fronts : List ℕ → List (List ℕ) → List (List ℕ)) (past : List Step) → IsRunOf c past → IsThinned c copies fronts past
    → (given : List LineTurn → ℕ) × GivesSections c copies given fronts past × BringsCues c given fronts past × LeavesOutRepeats copies given (line (sent_in c past))
    × ((t : List LineTurn) → length (sent_in c past) < length t → given t ≡ copies t)
thinned-gives c copies fronts past r t =
    let gs = numbers c copies fronts past in
    let given = looked_up copies gs in
    let size = numbers-length c copies fronts past in
    let many = looked-many copies (sent_in c past) gs size in
    let s = stands-past c copies given fronts past r t many in
    (given, given-past c copies given fronts past many, s.0, s.1.leaves, λ t longer. looked-past copies gs t (omega (arith, size)))

pub thinned_brings : ThinnedBrings
thinned_brings c copies fronts past r t = let g = thinned-gives c copies fronts past r t in (g.0, g.1, g.2, g.3)

-- ---- all of them

thin-all : (pid : ℕ) (items : List Item) (n : ℕ) (cues : List CueOut) → AllByRecursion Fits cues → packets_in_turn pid n (map cue_bytes cues) ≡ thin pid (λ t. 1) items n cues
thin-all pid items n [] fits = refl
thin-all pid items n (cue ∷ cues) fits =
    let s = cue_bytes cue in
    let one = (cue_fits cue fits.0).packet pid n in
    ap (λ ps. ps ++ packets_in_turn pid ((n + length ps) % 16) (map cue_bytes cues)) one
    ∙ ap (λ l. first_packet pid n s ∷ l) (thin-all pid (Sent cue ∷ items) ((n + 1) % 16) cues fits.1)

pub thinned_of_all : ThinnedOfAll
thinned_of_all c p past r = thin-all c.cue_pid (sent_in c past) (next_cue_number c past) (cues_at c p past) (cues-fit c p past r)

-- ---- the cue path

-- where the sections that are given keep enough of the cues, and what they leave out is told again, they do so themselves
pub given_keeps_enough : (c : Config) (copies given : List LineTurn → ℕ) (past : List Step) → IsRunOf c past → LeavesOutRepeats copies given (line (sent_in c past))
    → KeepsEnoughOf copies (asked_line c.index (turns_in c.program past)) → KeepsEnoughOf given (asked_line c.index (turns_in c.program past))
given_keeps_enough c copies given past r leaves k =
    let i = run-history c past r in
    repeats_lose_nothing copies given (asked_line c.index (turns_in c.program past)) (requests_are_a_run c.index (turns_in c.program past) i)
    (subst (LeavesOutRepeats copies given) (cues_tell_the_line c.index (turns_in c.program past) i) leaves) k

-- what comes behind so many is left out by neither choice alone
module _ (copies given : List LineTurn → ℕ) (size : ℕ) (same : (t : List LineTurn) → size < length t → given t ≡ copies t) where
  leaves-same : (s : LineTurn) (past : List LineTurn) → size < length (s ∷ past) → LeavesOne copies given s past
  leaves-same s past longer =
      let is = same (s ∷ past) longer in
      (λ some. subst (λ k. 0 < k) is some, λ some. inl (subst (λ k. 0 < k) (sym is) some))

  leaves-cues : (items : List Item) (cues : List CueOut) → size ≤ length items → LeavesOutRepeats copies given (line items)
      → (size ≤ length (sent_onto items cues)) × LeavesOutRepeats copies given (line (sent_onto items cues))
  leaves-cues items [] longer leaves = (longer, leaves)
  leaves-cues items (cue ∷ cues) longer leaves =
      let is = line-length items in
      leaves-cues (Sent cue ∷ items) cues (omega arith)
      (leaves-cue copies given (high_on items) cue (line items) (leaves-same (line_of (high_on items) cue) (line items) (omega (arith, is))) leaves)

  leaves-later : (c : Config) (later front : List Step) → size ≤ length (sent_in c front) → LeavesOutRepeats copies given (line (sent_in c front))
      → (size ≤ length (sent_in c (later ++ front))) × LeavesOutRepeats copies given (line (sent_in c (later ++ front)))
  leaves-later c [] front longer leaves = (longer, leaves)
  leaves-later c (Message m ∷ later) front longer leaves = leaves-later c later front longer leaves
  leaves-later c (Packet p ∷ later) front longer leaves =
      let past = later ++ front in
      let before = leaves-later c later front longer leaves in
      let here = leaves-cues (sent_in c past) (cues_at c p past) before.0 before.1 in
      (omega (arith, here.0), here.1)

pub thinned_cue_path : ThinnedCuePath
thinned_cue_path c copies fronts p last past later r t k e un reached =
    let front = Packet p ∷ past in
    let here = run-front c later front (run-packet c last (later ++ front) r) in
    let g = thinned-gives c copies fronts front here t in
    let leaves = leaves-later copies g.0 (length (sent_in c front)) g.4 c (Packet last ∷ later) front (omega arith) g.3 in
    cue_path_in_packets c g.0 fronts p last past later r g.2
    (given_keeps_enough c copies g.0 (Packet last ∷ (later ++ front)) r leaves.1 k) e un reached
