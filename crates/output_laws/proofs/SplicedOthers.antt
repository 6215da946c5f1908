-- A splice leaves out packets of switched PIDs alone, and puts units in on them alone.
use Rattle.std.specs.Prelude.{All, ◌==◌, filter, flat_map, if◌then◌else◌}
use Rattle.std.proofs.Common.{◌≡◌, ℕ, List, [], ◌∷◌, Bool, true, false, refl, sym, ap, ◌∙◌, length, subst}
use Rattle.std.proofs.lemmas.Bool.{or_left, or_right}
use Rattle.ts_packet.specs.Fields.{payload_on, is_among}
use Rattle.ts_packet.proofs.Cases.{by_test, test-same}
use Rattle.ts_packet.proofs.FieldLemmas.{payload_on-on}
use Rattle.splice_laws.specs.Splicing.{PlayedEvent, SliceUnit, stream, out_of, inserted, rest}
use Rattle.splice_laws.specs.Streams.{all_closing, all_running, is_dropped}
use Rattle.output_laws.specs.Output.{Move, Keep, Leave, Put, Packing, AlongMoves}
use Rattle.output_laws.specs.Others.{is_off, ChangesOnly}
use Rattle.output_laws.specs.Spliced.{puts_on, puts_each, puts_at, fate, moves_after, splice_moves, SplicedOthersPass}
use Rattle.output_laws.proofs.StepLemmas.{onto_moves}
use Rattle.output_laws.proofs.OtherLemmas.{off_on, others_pass}
use Rattle.output_laws.proofs.SplicedLemmas.{onto_moves-append, moves_are_spliced}

abbrev Sub : List ℕ → List ℕ → Type 0
Sub [] sw = Unit {0}
Sub (q ∷ qs) sw = (is_among q sw ≡ true) × Sub qs sw

sub_more : (x : ℕ) (qs sw : List ℕ) → Sub qs sw → Sub qs (x ∷ sw)
sub_more x [] sw h = tt
sub_more x (q ∷ qs) sw h = (or_right (x == q) (is_among q sw) h.0, sub_more x qs sw h.1)

sub_self : (sw : List ℕ) → Sub sw sw
sub_self [] = tt
sub_self (q ∷ sw) = (or_left (q == q) (is_among q sw) (test-same q), sub_more q sw sw (sub_self sw))

module _ (packed : Packing) (sw : List ℕ) where
  abbrev Here : List Move → Type 0
  Here S = AlongMoves (ChangesOnly sw) S

  on_one : (q : ℕ) (us : List SliceUnit) (S : List Move) → is_among q sw ≡ true → Here S → Here (onto_moves S (puts_on q us))
  on_one q [] S a h = h
  on_one q (u ∷ us) S a h = on_one q us (Put q u ∷ S) a (a, h)

  on_each_one : (qs : List ℕ) (f : ℕ → List SliceUnit) (S : List Move) → Sub qs sw → Here S → Here (onto_moves S (puts_each qs f))
  on_each_one [] f S a h = h
  on_each_one (q ∷ qs) f S a h =
      subst Here (sym (onto_moves-append S (puts_on q (f q)) (puts_each qs f))) (on_each_one qs f (onto_moves S (puts_on q (f q))) a.1 (on_one q (f q) S a.0 h))

  module _ (xs : List PlayedEvent) (slice : ℕ → PlayedEvent → List SliceUnit) (out : ℕ → PlayedEvent → List (List ℕ) → ℕ) where
    dropped_off : (qs : List ℕ) (p : List ℕ) (past : List (List ℕ)) → Sub qs sw → is_dropped sw xs p past qs ≡ true → is_off sw p ≡ false
    dropped_off [] p past a d = cc
    dropped_off (q ∷ qs) p past a d =
        by_test (payload_on q p)
        (λ y. off_on packed sw q p a.0 (payload_on-on q p y))
        (λ y. let e = simp y at d in dropped_off qs p past a.1 e)

    fate_within : (d : Bool) (p : List ℕ) (S : List Move) → (d ≡ true → is_off sw p ≡ false) → Here S → Here ((if d then Leave p else Keep p) ∷ S)
    fate_within true p S f h = (f refl, h)
    fate_within false p S f h = (tt, h)

    pub within : (past ps : List (List ℕ)) (S : List Move) → Here S → Here (onto_moves S (moves_after sw xs slice out past ps))
    within past [] S h = on_each_one sw (λ (q : ℕ). flat_map (λ (x : PlayedEvent). rest (stream sw q) x (slice q x) (out q x) past) xs) S (sub_self sw) h
    within past (p ∷ ps) S h =
        let fc : ℕ → List SliceUnit = λ (q : ℕ). all_closing (stream sw q) xs (λ (x : PlayedEvent). inserted (slice q x) (out q x)) p past in
        let fr : ℕ → List SliceUnit = λ (q : ℕ). all_running (stream sw q) xs (λ (x : PlayedEvent). inserted (slice q x) (out q x)) p past in
        let A = puts_at sw xs slice out p past in
        let F = fate sw xs p past in
        let B : Here (onto_moves S A) = subst Here (sym (onto_moves-append S (puts_each sw fc) (puts_each sw fr))) (on_each_one sw fr (onto_moves S (puts_each sw fc)) (sub_self sw) (on_each_one sw fc S (sub_self sw) h)) in
        subst Here (sym (onto_moves-append S A (F ∷ moves_after sw xs slice out (p ∷ past) ps)))
        (within (p ∷ past) ps (F ∷ onto_moves S A) (fate_within (is_dropped sw xs p past sw) p (onto_moves S A) (dropped_off sw p past (sub_self sw)) B))

pub spliced_others_pass : SplicedOthersPass
spliced_others_pass packed sw xs slice ps s l =
    let out : ℕ → PlayedEvent → List (List ℕ) → ℕ = λ (q : ℕ) (x : PlayedEvent). out_of (stream sw q) x (slice q x) in
    let e = (moves_are_spliced sw xs slice ps).1 in
    others_pass packed sw (splice_moves sw xs slice ps) s (within packed sw xs slice out [] ps [] tt) (subst (λ q. All (λ (p : List ℕ). length p ≡ 188) q) (sym e) l)
    ∙ ap (filter (is_off sw)) e
