-- The counters of packets that have gone out.
use Rattle.std.proofs.Common.{◌≡◌, ◌≢◌, ℕ, zero, suc, ◌+◌, ◌%◌, ◌<◌, ◌==◌, Bool, true, false, List, [], ◌∷◌, ◌++◌, length, drop, refl, ap, sym, ◌∙◌, subst, arith, append_assoc}
use Rattle.std.specs.Prelude.{slice_index_or, map, All, Some}
use Rattle.std.specs.List.{AllByRecursion}
use Rattle.std.proofs.lemmas.List.{append-nil, map-append}
use Rattle.std.proofs.lemmas.Bool.Decides.{nat_tests}
use Rattle.std.proofs.lemmas.Bool.{eqb-true}
use Rattle.ts_packet.specs.Filling.{packets_for}
use Rattle.ts_packet.specs.Fields.{in_error, pid_of, on, number}
use Rattle.ts_packet.specs.Numbering.{one_past}
use Rattle.std.proofs.lemmas.List.Elements.{All-head, All-tail}
use Rattle.ts_packet.specs.Runs.{onto}
use Rattle.ts_packet.proofs.RunLemmas.{onto-append}
use Rattle.ts_packet.proofs.FieldLemmas.{payload_on-on, error-off}
use Rattle.psi_section.specs.Packetising.{first_packet, next_packet, later_packets, section_packets, packets_in_turn}
use Rattle.psi_section.proofs.ReadBackLemmas.{first_number, next_packet_number, next_on, section_carry}
use Rattle.program_follower.specs.Program.{Table}
use Rattle.program_laws.specs.Writing.{number_on, packets_out, section_out, Off}
use Rattle.program_laws.proofs.PacketLemmas.{one_past-below}
use Rattle.program_laws.proofs.WritingLemmas.{carry_off}
use Rattle.ts_packet.proofs.Cases.{test-same}
use Rattle.outgoing_packets.specs.Numbers.{upcoming_on, HasPut, FrontFails}
use Rattle.outgoing_packets.specs.Entries.{change_of, GoesOut, AllGoOut}
use Rattle.outgoing_packets.specs.declared.entry.CueEntry.{CueEntry}
use Rattle.outgoing_packets.specs.declared.outgoing.Outgoing.{Outgoing}

-- one packet more on the PID, and one of another
upcoming-own : (pid : ℕ) (q : List ℕ) (out : List (List ℕ)) → on pid q ≡ true → upcoming_on pid (q ∷ out) ≡ (number q + 1) % 16
upcoming-own pid q out h = ap one_past (let f : number_on pid (q ∷ out) ≡ Some (number q) = simp h in f)

upcoming-off : (pid : ℕ) (q : List ℕ) (out : List (List ℕ)) → Off pid q → upcoming_on pid (q ∷ out) ≡ upcoming_on pid out
upcoming-off pid q out h = ap one_past (let f : number_on pid (q ∷ out) ≡ number_on pid out = simp h in f)

upcoming-others : (pid : ℕ) (qs out : List (List ℕ)) → AllByRecursion (Off pid) qs → upcoming_on pid (onto out qs) ≡ upcoming_on pid out
upcoming-others pid [] out h = refl
upcoming-others pid (q ∷ qs) out h = upcoming-others pid qs (q ∷ out) h.1 ∙ upcoming-off pid q out h.0

-- the packets in which a section goes on
upcoming-later : (count pid n : ℕ) (bs : List ℕ) (out : List (List ℕ)) → pid < 8192 → n < 16 → upcoming_on pid out ≡ n
    → upcoming_on pid (onto out (later_packets count pid n bs)) ≡ (n + length (later_packets count pid n bs)) % 16
upcoming-later zero pid n bs out pb nb is = is ∙ omega arith
upcoming-later (suc count) pid n bs out pb nb is =
    let q = next_packet pid n bs in
    let own : upcoming_on pid (q ∷ out) ≡ (n + 1) % 16 = upcoming-own pid q out (payload_on-on pid q (next_on pid n bs pb nb)) ∙ ap (λ k. (k + 1) % 16) (next_packet_number pid n bs pb nb) in
    let rest = upcoming-later count pid ((n + 1) % 16) (drop 184 bs) (q ∷ out) pb (omega arith) own in
    rest ∙ omega arith

-- and all packets of a section
pub upcoming-section : (pid n : ℕ) (s : List ℕ) (out : List (List ℕ)) → pid < 8192 → n < 16 → upcoming_on pid (onto out (section_packets pid n s)) ≡ (n + length (section_packets pid n s)) % 16
upcoming-section pid n s out pb nb =
    let q = first_packet pid n s in
    let carried = (section_carry pid n s pb nb).0 in
    let own : upcoming_on pid (q ∷ out) ≡ (n + 1) % 16 = upcoming-own pid q out (payload_on-on pid q carried) ∙ ap (λ k. (k + 1) % 16) (first_number pid n s pb nb) in
    let rest = upcoming-later (packets_for (length (drop 183 s))) pid ((n + 1) % 16) (drop 183 s) (q ∷ out) pb (omega arith) own in
    rest ∙ omega arith

pub one-section : (pid : ℕ) (out : List (List ℕ)) (s : List ℕ) → packets_out pid out (s ∷ []) ≡ section_packets pid (upcoming_on pid out) s
one-section pid out s = append-nil (section_packets pid (upcoming_on pid out) s)

-- the counters of the others stay
pub section-others : (pid other n : ℕ) (s : List ℕ) (out : List (List ℕ)) → pid < 8192 → n < 16 → other ≢ pid → upcoming_on other (onto out (section_packets pid n s)) ≡ upcoming_on other out
section-others pid other n s out pb nb ne = upcoming-others other (section_packets pid n s) out (carry_off pid other (section_packets pid n s) (λ e. ne (sym e)) (section_carry pid n s pb nb))

apart : (a b : ℕ) → (a == b) ≡ false → a ≢ b
apart a b e = grind (arith, nat_tests)

on-good : (pid : ℕ) (p : List ℕ) (b : Bool) → in_error p ≡ false → (pid_of p == pid) ≡ b → on pid p ≡ b
unfolding on
on-good pid p b good is = rw (good, is) refl

-- a section was put
pub put-numbers : (old new : Outgoing) (pid n : ℕ) (s : List ℕ) (out : List (List ℕ)) → pid < 8192 → HasPut old out → n ≡ upcoming_on pid out → n < 16
    → slice_index_or new.upcoming pid 0 ≡ (n + length (section_packets pid n s)) % 16
    → ((other : ℕ) → other ≢ pid → slice_index_or new.upcoming other 0 ≡ slice_index_or old.upcoming other 0)
    → HasPut new (onto out (packets_out pid out (s ∷ [])))
put-numbers old new pid n s out pb h is nb here others =
    rw (one-section pid out s, ← is) (record { next = λ q qb. by q qb (q == pid) refl })
  where
    by : (q : ℕ) → q < 8192 → (b : Bool) → (q == pid) ≡ b → slice_index_or new.upcoming q 0 ≡ upcoming_on q (onto out (section_packets pid n s))
    by q qb true e = let same : q ≡ pid = eqb-true q pid e in rw same (here ∙ sym (upcoming-section pid n s out pb nb))
    by q qb false e = let ne : q ≢ pid = apart q pid e in others q ne ∙ h.next q qb ∙ sym (section-others pid q n s out pb nb ne)

-- a packet was put as it is
pub passed-numbers : (old new : Outgoing) (p : List ℕ) (out : List (List ℕ)) → HasPut old out → in_error p ≡ false
    → slice_index_or new.upcoming (pid_of p) 0 ≡ (number p + 1) % 16
    → ((other : ℕ) → other ≢ pid_of p → slice_index_or new.upcoming other 0 ≡ slice_index_or old.upcoming other 0)
    → HasPut new (p ∷ out)
passed-numbers old new p out h good here others = record { next = λ q qb. by q qb (pid_of p == q) refl }
  where
    by : (q : ℕ) → q < 8192 → (b : Bool) → (pid_of p == q) ≡ b → slice_index_or new.upcoming q 0 ≡ upcoming_on q (p ∷ out)
    by q qb true e = let same : pid_of p ≡ q = eqb-true (pid_of p) q e in
        subst (λ k. slice_index_or new.upcoming k 0 ≡ upcoming_on k (p ∷ out)) same (here ∙ sym (upcoming-own (pid_of p) p out (on-good (pid_of p) p true good (test-same (pid_of p)))))
    by q qb false e = others q (λ k. apart (pid_of p) q e (sym k)) ∙ h.next q qb ∙ sym (upcoming-off q p out (on-good q p false good e))

pub marked-numbers : (o : Outgoing) (p : List ℕ) (out : List (List ℕ)) → HasPut o out → in_error p ≡ true → HasPut o (p ∷ out)
marked-numbers o p out h bad = record { next = λ q qb. h.next q qb ∙ sym (upcoming-off q p out (error-off q p bad)) }

-- sections in turn: the first one, and then the others behind it
pub packets-more : (pid : ℕ) (out : List (List ℕ)) (s : List ℕ) (ss : List (List ℕ)) → pid < 8192
    → packets_out pid out (s ∷ ss) ≡ packets_out pid out (s ∷ []) ++ packets_out pid (onto out (packets_out pid out (s ∷ []))) ss
packets-more pid out s ss pb =
    let n = upcoming_on pid out in
    let nb = one_past-below (number_on pid out) in
    let e = one-section pid out s in
    let next : upcoming_on pid (onto out (packets_out pid out (s ∷ []))) ≡ (n + length (section_packets pid n s)) % 16
    = ap (λ q. upcoming_on pid (onto out q)) e ∙ upcoming-section pid n s out pb nb in
    ap (λ q. q ++ packets_in_turn pid ((n + length (section_packets pid n s)) % 16) ss) (sym e)
    ∙ ap (λ k. packets_out pid out (s ∷ []) ++ packets_in_turn pid k ss) (sym next)

-- some of the tables were put: these packets; the others are left
pub record Going (change : CueEntry) (pid : ℕ) (out : List (List ℕ)) (all left : List Table) (new : Outgoing) (put : List (List ℕ)) : Type 0 where
  pub numbers : HasPut new (onto out put)
  pub rest : packets_out pid out (map (section_out (change_of change)) all) ≡ put ++ packets_out pid (onto out put) (map (section_out (change_of change)) left)
  pub good : AllGoOut change left

pub going-first : (change : CueEntry) (pid : ℕ) (out : List (List ℕ)) (all left : List Table) (o : Outgoing) → left ≡ all → HasPut o out → AllGoOut change all → Going change pid out all left o []
going-first change pid out all left o same h good = rw same (record { numbers = h; rest = refl; good = good })

module _ (change : CueEntry) (pid : ℕ) (out : List (List ℕ)) (all left : List Table) (old : Outgoing) (put : List (List ℕ)) (going : Going change pid out all left old put)
    (t : Table) (later : List Table) (steps : left ≡ t ∷ later) where
  pub going-good : GoesOut change t
  going-good = All-head (GoesOut change) t later (subst (AllGoOut change) steps going.good)

  pub going-here : packets_out pid out (map (section_out (change_of change)) all) ≡ put ++ packets_out pid (onto out put) (section_out (change_of change) t ∷ map (section_out (change_of change)) later)
  going-here = going.rest ∙ ap (λ ts. put ++ packets_out pid (onto out put) (map (section_out (change_of change)) ts)) steps

  pub going-more : (new : Outgoing) → pid < 8192 → HasPut new (onto (onto out put) (packets_out pid (onto out put) (section_out (change_of change) t ∷ [])))
      → Going change pid out all later new (put ++ packets_out pid (onto out put) (section_out (change_of change) t ∷ []))
  going-more new pb h =
      let so = section_out (change_of change) in
      let q = packets_out pid (onto out put) (so t ∷ []) in
      let joined : onto out (put ++ q) ≡ onto (onto out put) q = onto-append out put q in
      record {
        numbers = rw joined h;
        rest = going-here ∙ ap (λ l. put ++ l) (packets-more pid (onto out put) (so t) (map so later) pb)
            ∙ sym (append_assoc put q (packets_out pid (onto (onto out put) q) (map so later)))
            ∙ ap (λ o. (put ++ q) ++ packets_out pid o (map so later)) (sym joined);
        good = All-tail (GoesOut change) t later (subst (AllGoOut change) steps going.good);
      }

-- a front of the packets of one section, behind what was put before it
pub fails-behind : (packets before here after : List (List ℕ)) (F G : List (List ℕ) → List ℕ → Type 0) → packets ≡ before ++ (here ++ after)
    → ((put : List (List ℕ)) (p : List ℕ) → F put p → G (before ++ put) p) → FrontFails here F → FrontFails packets G
fails-behind packets before here after F G all moved f =
    record {
      put = before ++ f.put;
      packet = f.packet;
      left = f.left ++ after;
      all = all ∙ ap (λ h. before ++ (h ++ after)) f.all ∙ ap (λ l. before ++ l) (append_assoc f.put (f.packet ∷ f.left) after) ∙ sym (append_assoc before f.put (f.packet ∷ (f.left ++ after)));
      fault = moved f.put f.packet f.fault;
    }

-- sections behind others
pub packets-append : (pid : ℕ) (out : List (List ℕ)) (ss ts : List (List ℕ)) → pid < 8192
    → packets_out pid out (ss ++ ts) ≡ packets_out pid out ss ++ packets_out pid (onto out (packets_out pid out ss)) ts
packets-append pid out [] ts pb = refl
packets-append pid out (s ∷ ss) ts pb =
    let q = packets_out pid out (s ∷ []) in
    let more = packets-more pid out s ss pb in
    packets-more pid out s (ss ++ ts) pb
    ∙ ap (λ l. q ++ l) (packets-append pid (onto out q) ss ts pb)
    ∙ sym (append_assoc q (packets_out pid (onto out q) ss) (packets_out pid (onto (onto out q) (packets_out pid (onto out q) ss)) ts))
    ∙ ap (λ o. (q ++ packets_out pid (onto out q) ss) ++ packets_out pid o ts) (sym (onto-append out q (packets_out pid (onto out q) ss)))
    ∙ ap (λ l. l ++ packets_out pid (onto out l) ts) (sym more)

-- Tables go out one by one, each in these bytes, where each is so.
module _ (bytes : Table → List ℕ) (P : Table → Type 0) (pid : ℕ) (out : List (List ℕ)) where
  abbrev pub gone_out : List Table → List (List ℕ)
  gone_out ts = packets_out pid out (map bytes ts)

  abbrev pub next_out : List Table → Table → List (List ℕ)
  next_out whole t = packets_out pid (onto out (gone_out whole)) (bytes t ∷ [])

  tables-more : (whole : List Table) (t : Table) → pid < 8192 → gone_out (whole ++ t ∷ []) ≡ gone_out whole ++ next_out whole t
  tables-more whole t pb = ap (packets_out pid out) (map-append bytes whole (t ∷ [])) ∙ packets-append pid out (map bytes whole) (bytes t ∷ []) pb

  -- these of the tables went out whole, and the others are left
  pub record Gone (all left : List Table) (new : Outgoing) (whole : List Table) : Type 0 where
    pub split : all ≡ whole ++ left
    pub numbers : HasPut new (onto out (gone_out whole))
    pub good : All P left

  pub gone-first : (all left : List Table) (o : Outgoing) → left ≡ all → HasPut o out → All P all → Gone all left o []
  gone-first all left o same h good = rw same (record { split = refl; numbers = h; good = good })

  module _ (all left : List Table) (old : Outgoing) (whole : List Table) (gone : Gone all left old whole) (t : Table) (later : List Table) (steps : left ≡ t ∷ later) where
    pub gone-good : P t
    gone-good = All-head P t later (subst (All P) steps gone.good)

    pub gone-here : all ≡ whole ++ t ∷ later
    gone-here = gone.split ∙ ap (λ l. whole ++ l) steps

    pub gone-out : pid < 8192 → (ps : List (List ℕ)) → (ps ++ gone_out whole) ++ next_out whole t ≡ ps ++ gone_out (whole ++ t ∷ [])
    gone-out pb ps = append_assoc ps (gone_out whole) (next_out whole t) ∙ ap (λ l. ps ++ l) (sym (tables-more whole t pb))

    pub gone-more : (new : Outgoing) → pid < 8192 → HasPut new (onto (onto out (gone_out whole)) (next_out whole t)) → Gone all later new (whole ++ t ∷ [])
    gone-more new pb h = record {
      split = gone-here ∙ sym (append_assoc whole (t ∷ []) later);
      numbers = subst (λ o. HasPut new o) (sym (ap (onto out) (tables-more whole t pb) ∙ onto-append out (gone_out whole) (next_out whole t))) h;
      good = All-tail P t later (subst (All P) steps gone.good);
    }

-- the same front, said of another relation
pub front-moved : (packets : List (List ℕ)) (F G : List (List ℕ) → List ℕ → Type 0) → ((put : List (List ℕ)) (p : List ℕ) → F put p → G put p)
    → FrontFails packets F → FrontFails packets G
front-moved packets F G moved f = record { put = f.put; packet = f.packet; left = f.left; all = f.all; fault = moved f.put f.packet f.fault }

pub number-others : (pid : ℕ) (qs out : List (List ℕ)) → AllByRecursion (Off pid) qs → number_on pid (onto out qs) ≡ number_on pid out
number-others pid [] out off = refl
number-others pid (q ∷ qs) out off = number-others pid qs (q ∷ out) off.1 ∙ (let f : number_on pid (q ∷ out) ≡ number_on pid out = simp off.0 in f)
