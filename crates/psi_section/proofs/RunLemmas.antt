-- Sections of runs.
use Rattle.std.proofs.Common.{◌≡◌, ℕ, List, [], ◌∷◌, ◌++◌, reverse, true, false, refl, sym, ap, ◌∙◌, append_assoc, zero-add}
use Rattle.std.specs.Prelude.{◌+◌, filter, map, count_by}
use Rattle.std.proofs.lemmas.List.{append-nil, map-append}
use Rattle.std.specs.List.{AllByRecursion}
use Rattle.ts_packet.specs.Fields.{on, payload_on}
use Rattle.ts_packet.specs.Duplicates.{repeats, last_of}
use Rattle.ts_packet.specs.Runs.{Seen, seen_after}
use Rattle.ts_packet.proofs.Cases.{by_test}
use Rattle.ts_packet.proofs.FieldLemmas.{off_payload}
use Rattle.ts_packet.proofs.RunLemmas.{onto, seen_after-append}
use Rattle.psi_section.specs.Laws.{SameHistory}
use Rattle.psi_section.specs.Sections.{Assembled, packet_taken, is_good, is_bad, held, given, failed, given_by, sections_with, sections_after, sections}

-- ---- one packet more

given_by-append : (pid : ℕ) (xs ys : List Seen) → given_by pid (xs ++ ys) ≡ given_by pid xs ++ given_by pid ys
given_by-append pid [] ys = refl
given_by-append pid (x ∷ xs) ys = ap (λ l. given pid x.packet x.past ++ l) (given_by-append pid xs ys) ∙ sym (append_assoc (given pid x.packet x.past) (given_by pid xs) (given_by pid ys))

pub sections_after-append : (pid : ℕ) (past ps qs : List (List ℕ)) → sections_after past pid (ps ++ qs) ≡ sections_after past pid ps ++ sections_after (onto past ps) pid qs
sections_after-append pid past ps qs = ap (given_by pid) (seen_after-append past ps qs) ∙ given_by-append pid (seen_after past ps) (seen_after (onto past ps) qs)

pub grow : (pid : ℕ) (ps : List (List ℕ)) (p : List ℕ) → sections pid (ps ++ p ∷ []) ≡ sections pid ps ++ given pid p (reverse ps)
grow pid ps p = sections_after-append pid [] ps (p ∷ []) ∙ ap (λ l. sections pid ps ++ l) (append-nil (given pid p (reverse ps)))

-- ---- what an original packet comes to

pub original_gives : (pid : ℕ) (p : List ℕ) (past : List (List ℕ)) (t : Assembled) → payload_on pid p ≡ true → repeats pid p past ≡ false
    → packet_taken p (last_of pid past) (held pid past) ≡ t → given pid p past ≡ filter is_good t.finished
original_gives pid p past t y w e = simp (y, w) (ap (λ (x : Assembled). filter is_good x.finished) e)

pub original_holds : (pid : ℕ) (p : List ℕ) (past : List (List ℕ)) (t : Assembled) → payload_on pid p ≡ true → repeats pid p past ≡ false
    → packet_taken p (last_of pid past) (held pid past) ≡ t → held pid (p ∷ past) ≡ t.part
original_holds pid p past t y w e = simp (y, w) (ap (λ (x : Assembled). x.part) e)

pub original_fails : (pid : ℕ) (p : List ℕ) (past : List (List ℕ)) (t : Assembled) → payload_on pid p ≡ true → repeats pid p past ≡ false
    → packet_taken p (last_of pid past) (held pid past) ≡ t → failed pid (p ∷ past) ≡ count_by is_bad t.finished + failed pid past
original_fails pid p past t y w e = simp (y, w) (ap (λ (x : Assembled). count_by is_bad x.finished + failed pid past) e)

-- ---- packets of other PIDs

-- two pasts that come to the same
pub record Alike (pid : ℕ) (past other : List (List ℕ)) : Type 0 where
  pub last : last_of pid past ≡ last_of pid other
  pub part : held pid past ≡ held pid other
  pub repeated : (p : List ℕ) → repeats pid p past ≡ repeats pid p other

pub alike_off : (pid : ℕ) (p : List ℕ) (past other : List (List ℕ)) → on pid p ≡ false → Alike pid past other → Alike pid (p ∷ past) other
alike_off pid p past other h k = let n = off_payload pid p h in record {
  last = simp n k.last;
  part = simp n k.part;
  repeated = λ q. simp n (k.repeated q);
}

pub given_off : (pid : ℕ) (p : List ℕ) (past : List (List ℕ)) → on pid p ≡ false → given pid p past ≡ []
given_off pid p past h = let n = off_payload pid p h in simp n

pub alike_on : (pid : ℕ) (p : List ℕ) (past other : List (List ℕ)) → Alike pid past other → Alike pid (p ∷ past) (p ∷ other)
alike_on pid p past other k =
    let r = k.repeated p in
    record {
      last = simp (r, k.last);
      part = simp (r, k.last, k.part);
      repeated = λ q. let s = k.repeated q in let l = k.repeated p in simp (s, l);
    }

pub given_on : (pid : ℕ) (p : List ℕ) (past other : List (List ℕ)) → Alike pid past other → given pid p past ≡ given pid p other
given_on pid p past other k = let r = k.repeated p in simp (r, k.last, k.part)

pub alike_none : (pid : ℕ) (past : List (List ℕ)) → Alike pid past past
alike_none pid past = record { last = refl; part = refl; repeated = λ p. refl }

pub alike_back : (pid : ℕ) (past other : List (List ℕ)) → Alike pid past other → Alike pid other past
alike_back pid past other k = record { last = sym k.last; part = sym k.part; repeated = λ p. sym (k.repeated p) }

pub alike_both : (pid : ℕ) (past other third : List (List ℕ)) → Alike pid past other → Alike pid other third → Alike pid past third
alike_both pid past other third k l = record { last = k.last ∙ l.last; part = k.part ∙ l.part; repeated = λ p. k.repeated p ∙ l.repeated p }

-- packets off the PID finish nothing, and change nothing
pub others_alike : (pid : ℕ) (qs past other : List (List ℕ)) → AllByRecursion (λ q. on pid q ≡ false) qs → Alike pid past other → Alike pid (onto past qs) other
others_alike pid [] past other h k = k
others_alike pid (q ∷ qs) past other h k = others_alike pid qs (q ∷ past) other h.1 (alike_off pid q past other h.0 k)

pub others_give : (pid : ℕ) (qs past : List (List ℕ)) → AllByRecursion (λ q. on pid q ≡ false) qs → sections_after past pid qs ≡ []
others_give pid [] past h = refl
others_give pid (q ∷ qs) past h = ap (λ l. l ++ sections_after (q ∷ past) pid qs) (given_off pid q past h.0) ∙ others_give pid qs (q ∷ past) h.1

filter_on : (pid : ℕ) (p : List ℕ) (ps : List (List ℕ)) → on pid p ≡ true → filter (on pid) (p ∷ ps) ≡ p ∷ filter (on pid) ps
filter_on pid p ps h = simp h

filter_off : (pid : ℕ) (p : List ℕ) (ps : List (List ℕ)) → on pid p ≡ false → filter (on pid) (p ∷ ps) ≡ filter (on pid) ps
filter_off pid p ps h = simp h

of_pid : (pid : ℕ) (past other ps : List (List ℕ)) → Alike pid past other → sections_after past pid ps ≡ sections_after other pid (filter (on pid) ps)
of_pid pid past other [] k = refl
of_pid pid past other (p ∷ ps) k =
    by_test (on pid p)
    (λ y. ap (λ l. l ++ sections_after (p ∷ past) pid ps) (given_on pid p past other k)
    ∙ ap (λ l. given pid p other ++ l) (of_pid pid (p ∷ past) (p ∷ other) ps (alike_on pid p past other k))
    ∙ ap (sections_after other pid) (sym (filter_on pid p ps y)))
    (λ n. ap (λ l. l ++ sections_after (p ∷ past) pid ps) (given_off pid p past n)
    ∙ of_pid pid (p ∷ past) other ps (alike_off pid p past other n k)
    ∙ ap (sections_after other pid) (sym (filter_off pid p ps n)))

pub sections_of : (pid : ℕ) (ps : List (List ℕ)) → sections pid ps ≡ sections pid (filter (on pid) ps)
sections_of pid ps = of_pid pid [] [] ps (record { last = refl; part = refl; repeated = λ p. refl })

-- ---- pasts, and their packets of one PID

filtered_alike : (pid : ℕ) (past : List (List ℕ)) → Alike pid past (filter (on pid) past)
filtered_alike pid [] = alike_none pid []
filtered_alike pid (p ∷ past) =
    let k = filtered_alike pid past in
    by_test (on pid p)
    (λ y. simp y (alike_on pid p past (filter (on pid) past) k))
    (λ n. simp n (alike_off pid p past (filter (on pid) past) n k))

failed_off : (pid : ℕ) (p : List ℕ) (past : List (List ℕ)) → on pid p ≡ false → failed pid (p ∷ past) ≡ failed pid past
failed_off pid p past h = let n = off_payload pid p h in simp n (zero-add (failed pid past))

failed_on : (pid : ℕ) (p : List ℕ) (past other : List (List ℕ)) → Alike pid past other → failed pid past ≡ failed pid other → failed pid (p ∷ past) ≡ failed pid (p ∷ other)
failed_on pid p past other k h = let r = k.repeated p in simp (r, k.last, k.part, h)

filtered_failed : (pid : ℕ) (past : List (List ℕ)) → failed pid past ≡ failed pid (filter (on pid) past)
filtered_failed pid [] = refl
filtered_failed pid (p ∷ past) =
    let k = filtered_failed pid past in
    by_test (on pid p)
    (λ y. failed_on pid p past (filter (on pid) past) (filtered_alike pid past) k ∙ ap (failed pid) (sym (filter_on pid p past y)))
    (λ n. failed_off pid p past n ∙ k ∙ ap (failed pid) (sym (filter_off pid p past n)))

pub others_change_nothing : (pid : ℕ) (past : List (List ℕ)) → SameHistory pid past (filter (on pid) past)
others_change_nothing pid past =
    let k = filtered_alike pid past in
    record {
      last = k.last;
      part = k.part;
      failed = filtered_failed pid past;
      given = λ p. given_on pid p past (filter (on pid) past) k;
    }

-- ---- sections with their packets

second_of : (s : Seen) (ss : List (List ℕ)) → map (λ x. x.1) (map (λ section. let x : Seen × List ℕ = (s, section) in x) ss) ≡ ss
second_of s [] = refl
second_of s (t ∷ ts) = ap (λ l. t ∷ l) (second_of s ts)

pub have_packets : (pid : ℕ) (seen : List Seen) → map (λ x. x.1) (sections_with pid seen) ≡ given_by pid seen
have_packets pid [] = refl
have_packets pid (s ∷ ss) =
    let here = map (λ section. let x : Seen × List ℕ = (s, section) in x) (given pid s.packet s.past) in
    map-append (λ x. x.1) here (sections_with pid ss) ∙ ap (λ l. l ++ map (λ x. x.1) (sections_with pid ss)) (second_of s (given pid s.packet s.past))
    ∙ ap (λ l. given pid s.packet s.past ++ l) (have_packets pid ss)
