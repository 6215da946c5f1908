-- The whole outputs of two runs, and what is counted in them.
use Rattle.std.proofs.Common.{◌≡◌, ℕ, List, [], ◌∷◌, ◌++◌, Bool, true, false, not, ◌&&◌, ◌||◌, refl, sym, ap, ◌∙◌, reverse}
use Rattle.std.specs.Prelude.{ℤ, Contains, count_by}
use Rattle.std.specs.List.{list_any, AllByRecursion}
use Rattle.std.proofs.lemmas.List.{reverse-reverse}
use Rattle.std.proofs.lemmas.Bool.{and_parts}
use Rattle.known_laws.proofs.QuietLemmas.{or-none}
use Rattle.ts_packet.specs.Fields.{on}
use Rattle.ts_packet.proofs.FieldLemmas.{off_payload}
use Rattle.unit_stream.specs.Times.{begins, unit_time}
use Rattle.unit_stream.proofs.ClockLemmas.{begins_off}
use Rattle.event_table.specs.Standing.{Standing, end_of}
use Rattle.armed_laws.proofs.Proofs.{events_never_meet}
use Rattle.splice_laws.specs.Splicing.{TimedStream, stream, at_or_past, below, passed}
use Rattle.splice_plans.specs.Playing.{Adverts, is_played, is_crossed}
use Rattle.splice_plans.specs.Switching.{Setting, switched_at, high_at, events_at, rest_at, switched_past, spliced_network}
use Rattle.splice_plans.specs.Known.{adverts_at, behind_at}
use Rattle.splice_plans.specs.Reporting.{is_not_fitted, is_unconditioned}
use Rattle.splice_plans.proofs.KnownLemmas.{played-stays}
use Rattle.splice_plans.proofs.StartLemmas.{Distinct}
use Rattle.thinned_laws.specs.Beside.{Beside, Shared, Here, There, one_run, other_run, DifferOn, CuesAreApart, AgreeAlong, AgreeAtTheEnd}
use Rattle.thinned_laws.specs.Laws.{CountedAlike, SameEventsSameNetwork}
use Rattle.thinned_laws.proofs.Lists.{distinct-starts, same-counted, count-tests}
use Rattle.thinned_laws.proofs.Flags.{OffAlone, OffAll, begins-same, time-same}
use Rattle.thinned_laws.proofs.Known.{and-same, if-same, or-same}
use Rattle.thinned_laws.proofs.Moves.{all-ready}
use Rattle.thinned_laws.proofs.Tables.{switched-same, adverts-same, is-behind-same, behind_rows, behind-one, behind-other}
use Rattle.thinned_laws.proofs.Runs.{same_events_same_output, agree-behind, off-behind, rest-by}

-- ---- units that cross an edge

module _ (switched : List ℕ) (pid : ℕ) (edge : ℤ) where
  abbrev r : TimedStream
  r = stream switched pid

  quiet : (q : List ℕ) (past : List (List ℕ)) → on pid q ≡ false → begins pid q past ≡ false
  quiet q past n = begins_off pid q past (off_payload pid q n)

  passed-same : (rows : List Beside) → OffAll switched rows → OffAlone pid rows → passed r edge (one_run rows) ≡ passed r edge (other_run rows)
  passed-same [] o a = refl
  passed-same (Shared p ∷ rows) o a =
      or-same (passed-same rows o a) (and-same (begins-same pid rows a p) (λ y. ap (at_or_past edge) (time-same switched pid (Shared p ∷ rows) o a)))
  passed-same (Here q ∷ rows) o a =
      or-none (passed r edge (one_run rows)) (begins pid q (one_run rows)) (at_or_past edge (unit_time switched pid (q ∷ one_run rows))) (quiet q (one_run rows) a.0) ∙ passed-same rows o.1 a.1
  passed-same (There q ∷ rows) o a =
      passed-same rows o.1 a.1 ∙ sym (or-none (passed r edge (other_run rows)) (begins pid q (other_run rows)) (at_or_past edge (unit_time switched pid (q ∷ other_run rows))) (quiet q (other_run rows) a.0))

  crossed-same : (rows : List Beside) → OffAll switched rows → OffAlone pid rows → is_crossed r edge (one_run rows) ≡ is_crossed r edge (other_run rows)
  crossed-same [] o a = refl
  crossed-same (Shared p ∷ rows) o a =
      or-same (crossed-same rows o a)
      (and-same (begins-same pid rows a p) (λ y. and-same (passed-same rows o a) (λ z. ap (below edge) (time-same switched pid (Shared p ∷ rows) o a))))
  crossed-same (Here q ∷ rows) o a =
      or-none (is_crossed r edge (one_run rows)) (begins pid q (one_run rows)) (passed r edge (one_run rows) && below edge (unit_time switched pid (q ∷ one_run rows))) (quiet q (one_run rows) a.0) ∙ crossed-same rows o.1 a.1
  crossed-same (There q ∷ rows) o a =
      crossed-same rows o.1 a.1
      ∙ sym (or-none (is_crossed r edge (other_run rows)) (begins pid q (other_run rows)) (passed r edge (other_run rows) && below edge (unit_time switched pid (q ∷ other_run rows))) (quiet q (other_run rows) a.0))

any-crossed-same : (switched : List ℕ) (rows : List Beside) → OffAll switched rows → (e : Standing) → (pids : List ℕ) → AllByRecursion (λ pid. Contains switched pid × OffAlone pid rows) pids →
    list_any (λ pid. is_crossed (stream switched pid) e.start (one_run rows) || is_crossed (stream switched pid) (end_of e) (one_run rows)) pids
    ≡ list_any (λ pid. is_crossed (stream switched pid) e.start (other_run rows) || is_crossed (stream switched pid) (end_of e) (other_run rows)) pids
any-crossed-same switched rows o e [] all = refl
any-crossed-same switched rows o e (pid ∷ pids) all =
    or-same (or-same (crossed-same switched pid e.start rows o all.0.1) (crossed-same switched pid (end_of e) rows o all.0.1)) (any-crossed-same switched rows o e pids all.1)

unconditioned-same : (switched : List ℕ) (rows : List Beside) → OffAll switched rows → (e : Standing) → is_unconditioned switched (one_run rows) e ≡ is_unconditioned switched (other_run rows) e
unconditioned-same switched rows o e = any-crossed-same switched rows o e switched (all-ready switched rows o)

-- ---- the report

module _ (k : Setting) (rows : List Beside) (a : CuesAreApart k (one_run rows)) (d : DifferOn k.cue_pid rows) (last : AgreeAtTheEnd k rows) where
  abbrev past : List (List ℕ)
  past = one_run rows

  abbrev other : List (List ℕ)
  other = other_run rows

  distinct : (ps : List (List ℕ)) → Distinct (events_at k ps)
  distinct ps = distinct-starts (events_at k ps) (events_never_meet k.cue_pid (high_at k) ps)

  -- of a test that takes none that is cancelled
  counted : (test : Standing → Bool) → ((e : Standing) → test e ≡ true → e.cancelled ≡ false) → count_by test (events_at k (one_run rows)) ≡ count_by test (events_at k (other_run rows))
  counted test live = same-counted test (events_at k (one_run rows)) (events_at k (other_run rows)) (distinct (one_run rows)) (distinct (other_run rows)) (λ e t. last e (live e t))

  not-is : (c : Bool) → not c ≡ true → c ≡ false
  not-is true h = sym h
  not-is false h = refl

  unfitted-stays : (ads : Adverts) (e : Standing) → is_not_fitted ads e ≡ true → e.cancelled ≡ false
  unfitted-stays ads e h = not-is e.cancelled (and_parts (not e.cancelled) (not (ads.fits e)) h).0

  conditions : (e : Standing) → is_unconditioned (switched_at k (one_run rows)) (behind_at k (one_run rows)) e ≡ is_unconditioned (switched_at k (other_run rows)) (behind_at k (other_run rows)) e
  conditions e =
      ap (λ b. is_unconditioned (switched_at k (one_run rows)) b e) (sym (behind-one k rows))
      ∙ unconditioned-same (switched_at k (one_run rows)) (behind_rows k rows) (off-behind k rows a d) e
      ∙ ap (λ b. is_unconditioned (switched_at k (one_run rows)) b e) (behind-other k rows a d)
      ∙ ap (λ s. is_unconditioned s (behind_at k (other_run rows)) e) (switched-same k rows a d)

  counted-alike : CountedAlike k (one_run rows) (other_run rows)
  counted-alike = record {
    played =
        counted (is_played (adverts_at k (one_run rows))) (λ e t. played-stays (adverts_at k (one_run rows)) e t)
        ∙ ap (λ ads. count_by (is_played ads) (events_at k (other_run rows))) (adverts-same k rows a d);
    not_fitted =
        counted (is_not_fitted (adverts_at k (one_run rows))) (λ e t. unfitted-stays (adverts_at k (one_run rows)) e t)
        ∙ ap (λ ads. count_by (is_not_fitted ads) (events_at k (other_run rows))) (adverts-same k rows a d);
    unconditioned =
        counted (λ e. is_played (adverts_at k (one_run rows)) e && is_unconditioned (switched_at k (one_run rows)) (behind_at k (one_run rows)) e)
        (λ e t. played-stays (adverts_at k (one_run rows)) e (and_parts (is_played (adverts_at k (one_run rows)) e) (is_unconditioned (switched_at k (one_run rows)) (behind_at k (one_run rows)) e) t).0)
        ∙ count-tests (λ e. is_played (adverts_at k (one_run rows)) e && is_unconditioned (switched_at k (one_run rows)) (behind_at k (one_run rows)) e)
        (λ e. is_played (adverts_at k (other_run rows)) e && is_unconditioned (switched_at k (other_run rows)) (behind_at k (other_run rows)) e)
        (λ e. and-same (ap (λ ads. is_played ads e) (adverts-same k rows a d)) (λ y. conditions e)) (events_at k (other_run rows));
  }

  -- ---- the whole output

  module _ (g : AgreeAlong k rows) where
    rest-at-same : rest_at k (one_run rows) ≡ rest_at k (other_run rows)
    rest-at-same = if-same (is-behind-same k rows a d) (λ b. rest-by k [] rows a d (agree-behind k rows a d g) last) refl

    network-same : spliced_network k (reverse (one_run rows)) ≡ spliced_network k (reverse (other_run rows))
    network-same =
        ap (λ (ps : List (List ℕ)). reverse (switched_past k ps) ++ rest_at k ps) (reverse-reverse (one_run rows))
        ∙ ap (λ (ps : List (List ℕ)). reverse ps ++ rest_at k (one_run rows)) (same_events_same_output k rows a d g)
        ∙ ap (λ (ps : List (List ℕ)). reverse (switched_past k (other_run rows)) ++ ps) rest-at-same
        ∙ sym (ap (λ (ps : List (List ℕ)). reverse (switched_past k ps) ++ rest_at k ps) (reverse-reverse (other_run rows)))

pub same_events_same_network : SameEventsSameNetwork
same_events_same_network k rows a d g last = record { output = network-same k rows a d last g; counted = counted-alike k rows a d last }
