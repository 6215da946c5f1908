-- The begins of units found one packet at a time are those of the run, and the points among those with a mark are the points of all.
use Rattle.std.specs.Prelude.{filter, min, ◌-◌, ◌^◌, length}
use Rattle.std.specs.List.{filter_map}
use Rattle.std.specs.Prelude.{Result, Ok, Err, IfOk, ◌<◌, take, get_or}
use Rattle.std.proofs.lemmas.List.{take_more}
use Rattle.random_access.specs.declared.begins.Point.{Point}
use Rattle.std.proofs.Common.{◌≡◌, ℕ, ◌+◌, List, [], ◌∷◌, ◌++◌, reverse, refl, sym, ap, ◌∙◌, Option, None, Some, true, false, append_assoc, map, arith}
use Rattle.std.proofs.lemmas.List.{append-nil, length-append}
use Rattle.std.proofs.lemmas.List.Elements.{filter-append, filter_map-append}
use Rattle.ts_packet.specs.Runs.{seen_after}
use Rattle.ts_packet.proofs.Cases.{by_test}
use Rattle.ts_packet.proofs.RunLemmas.{onto}
use Rattle.ts_packet.specs.Fields.{bytes}
use Rattle.unit_stream.specs.Times.{begins, stamp}
use Rattle.random_access.specs.Marks.{marks_of, header_mark}
use Rattle.pes_time.specs.Stamps.{is_split, is_untimed, stamp_of}
use Rattle.random_access.specs.declared.begins.UnitBegins.{UnitBegins}
use Rattle.random_access.specs.Points.{Keeps, is_begin, begin_at, begins_of, begins_back, has_mark, point_of, or_else, first_stamp, last_stamp}
use Rattle.random_access.specs.declared.coding.VideoCoding.{VideoCoding}
use Rattle.random_access.specs.declared.coding.VideoCoding.TheVariants.{Mpeg, Avc, Hevc}
use Rattle.random_access.specs.declared.marks.Marks.{Marks}
use Rattle.random_access.specs.declared.begins.UnitBegin.{UnitBegin}

-- ---- from pasts to runs

begins_glue : (pid : ℕ) (past ps : List (List ℕ)) → begins_back pid past ++ map begin_at (filter (is_begin pid) (seen_after past ps)) ≡ begins_back pid (onto past ps)
begins_glue pid past [] = append-nil (begins_back pid past)
begins_glue pid past (p ∷ ps) =
    let h = begins_glue pid (p ∷ past) ps in
    by_test (begins pid p past)
    (λ b. simp b (sym (append_assoc (begins_back pid past) (begin_at (record { packet = p; past = past }) ∷ []) (map begin_at (filter (is_begin pid) (seen_after (p ∷ past) ps)))) ∙ (simp b at h)))
    (λ b. simp b (ap (λ l. l ++ map begin_at (filter (is_begin pid) (seen_after (p ∷ past) ps))) (sym (append-nil (begins_back pid past))) ∙ (simp b at h)))

-- the begins of a run are those found one packet at a time
pub begins_in_order : (pid : ℕ) (ps : List (List ℕ)) → begins_of pid ps ≡ begins_back pid (reverse ps)
begins_in_order pid ps = begins_glue pid [] ps

-- ---- points

header_none : (coding : Option VideoCoding) (m : Marks) → m.sequence_header ≡ false → m.avc_parameters ≡ false → m.hevc_parameters ≡ false → header_mark coding m ≡ None
header_none None m s a h = refl
header_none (Some Mpeg) m s a h = simp s
header_none (Some Avc) m s a h = simp a
header_none (Some Hevc) m s a h = simp h

unmarked : (coding : Option VideoCoding) (b : UnitBegin) → has_mark b ≡ false → point_of coding b ≡ None
unmarked coding b h =
    by_test (b.marks.indicator)
    (λ i. absurd (let k = simp i at h in cc))
    (λ i. by_test (b.marks.sequence_header)
    (λ s. absurd (let k = simp (i, s) at h in cc))
    (λ s. by_test (b.marks.avc_parameters)
    (λ a. absurd (let k = simp (i, s, a) at h in cc))
    (λ a. by_test (b.marks.hevc_parameters)
    (λ v. absurd (let k = simp (i, s, a, v) at h in cc))
    (λ v. let n = header_none coding b.marks s a v in simp (i, n)))))

-- the points among the begins with a mark are those among all
pub points_marked : (coding : Option VideoCoding) (bs : List UnitBegin) → filter_map (point_of coding) (filter has_mark bs) ≡ filter_map (point_of coding) bs
points_marked coding [] = refl
points_marked coding (b ∷ bs) =
    let h = points_marked coding bs in
    by_test (has_mark b)
    (λ m. simp (m, h))
    (λ m. let n = unmarked coding b m in simp (m, n, h))

-- ---- one begin more

or_else-assoc : (a b c : Option ℕ) → or_else (or_else a b) c ≡ or_else a (or_else b c)
or_else-assoc None b c = refl
or_else-assoc (Some t) b c = refl

or_else-none : (a : Option ℕ) → or_else a None ≡ a
or_else-none None = refl
or_else-none (Some t) = refl

pub first_more : (bs : List UnitBegin) (b : UnitBegin) → first_stamp (bs ++ b ∷ []) ≡ or_else (first_stamp bs) b.pts
first_more [] b = or_else-none b.pts
first_more (a ∷ bs) b = ap (or_else a.pts) (first_more bs b) ∙ sym (or_else-assoc a.pts (first_stamp bs) b.pts)

pub last_more : (bs : List UnitBegin) (b : UnitBegin) → last_stamp (bs ++ b ∷ []) ≡ or_else b.pts (last_stamp bs)
last_more [] b = sym (or_else-none b.pts)
last_more (a ∷ bs) b = ap (λ o. or_else o a.pts) (last_more bs b) ∙ or_else-assoc b.pts (last_stamp bs) a.pts

pub marked_more : (bs : List UnitBegin) (b : UnitBegin) → has_mark b ≡ true → filter has_mark (bs ++ b ∷ []) ≡ filter has_mark bs ++ b ∷ []
marked_more bs b h = simp (filter-append, h)

pub marked_same : (bs : List UnitBegin) (b : UnitBegin) → has_mark b ≡ false → filter has_mark (bs ++ b ∷ []) ≡ filter has_mark bs
marked_same bs b h = simp (filter-append, h, append-nil)

more_units : (n m : ℕ) → n ≡ min m (2 ^ 64 - 1) → min (n + 1) (2 ^ 64 - 1) ≡ min (m + 1) (2 ^ 64 - 1)
more_units n m h = omega (arith, h)

-- what an addition leaves of the numbers and stamps
pub record Added (old new : UnitBegins) (b : UnitBegin) : Type 0 where
  pub units : new.units ≡ min (old.units + 1) (2 ^ 64 - 1)
  pub first : new.first ≡ or_else old.first b.pts
  pub last : new.last ≡ or_else b.pts old.last

pub keeps_marked : (old new : UnitBegins) (bs : List UnitBegin) (b : UnitBegin) → Added old new b → has_mark b ≡ true
    → new.marked.items ≡ old.marked.items ++ b ∷ [] → Keeps old bs → Keeps new (bs ++ b ∷ [])
keeps_marked old new bs b a h m k = record {
  marked = m ∙ ap (λ l. l ++ b ∷ []) k.marked ∙ sym (marked_more bs b h);
  units = a.units ∙ more_units old.units (length bs) k.units ∙ ap (λ n. min n (2 ^ 64 - 1)) (sym (length-append bs (b ∷ [])));
  first = a.first ∙ ap (λ o. or_else o b.pts) k.first ∙ sym (first_more bs b);
  last = a.last ∙ ap (λ o. or_else b.pts o) k.last ∙ sym (last_more bs b);
}

pub keeps_unmarked : (old new : UnitBegins) (bs : List UnitBegin) (b : UnitBegin) → Added old new b → has_mark b ≡ false
    → new.marked.items ≡ old.marked.items → Keeps old bs → Keeps new (bs ++ b ∷ [])
keeps_unmarked old new bs b a h m k = record {
  marked = m ∙ k.marked ∙ sym (marked_same bs b h);
  units = a.units ∙ more_units old.units (length bs) k.units ∙ ap (λ n. min n (2 ^ 64 - 1)) (sym (length-append bs (b ∷ [])));
  first = a.first ∙ ap (λ o. or_else o b.pts) k.first ∙ sym (first_more bs b);
  last = a.last ∙ ap (λ o. or_else b.pts o) k.last ∙ sym (last_more bs b);
}

-- a unit whose first packet does not have its stamps whole has none
pub split_unstamped : (payload : List ℕ) → is_split payload ≡ true → stamp_of payload ≡ None
unfolding stamp_of
split_unstamped payload h = by_test (is_untimed payload) (λ u. simp u) (λ u. simp (u, h))

-- the begin of a unit by the packet that begins it
pub keeps_begin : (kept : UnitBegins) (pid : ℕ) (p payload : List ℕ) (past : List (List ℕ)) (at : ℕ) (pts : Option ℕ) (marks : Marks) → begins pid p past ≡ true → payload ≡ bytes p
    → at ≡ length past → pts ≡ stamp_of payload → marks ≡ marks_of p
    → Keeps kept (begins_back pid past ++ record { packet = at; pts = pts; marks = marks } ∷ []) → Keeps kept (begins_back pid (p ∷ past))
unfolding stamp
keeps_begin kept pid p payload past at pts marks begun same e f g k =
    let told : pts ≡ stamp_of (bytes p) = f ∙ ap stamp_of same in
    let moved = rw (e, told, g) at k in
    rw begun moved

-- ---- points, one begin more

module _ (coding : Option VideoCoding) (bs : List UnitBegin) (i : ℕ) (b : UnitBegin) where
  pub points_more : (p : Point) → i < length bs → get_or bs i b ≡ b → point_of coding b ≡ Some p
      → filter_map (point_of coding) (take (i + 1) bs) ≡ filter_map (point_of coding) (take i bs) ++ p ∷ []
  points_more p h is some = rw (take_more bs i b h, is) (simp (filter_map-append, some))

  pub points_same : i < length bs → get_or bs i b ≡ b → point_of coding b ≡ None
      → filter_map (point_of coding) (take (i + 1) bs) ≡ filter_map (point_of coding) (take i bs)
  points_same h is none = rw (take_more bs i b h, is) (simp (filter_map-append, none, append-nil))

pub points_of_all : {V E : Type 0} (items : V → List Point) (r : Result V E) (coding : Option VideoCoding) (marked bs : List UnitBegin) → marked ≡ filter has_mark bs
    → IfOk r (λ v. items v ≡ filter_map (point_of coding) marked) → IfOk r (λ v. items v ≡ filter_map (point_of coding) bs)
points_of_all items (Ok v) coding marked bs m h = h ∙ ap (filter_map (point_of coding)) m ∙ points_marked coding bs
points_of_all items (Err e) coding marked bs m h = h
