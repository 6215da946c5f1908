-- What is found among services, one after another.
use Rattle.std.proofs.Common.{◌≡◌, ℕ, ◌<◌, List, ◌∷◌, length, drop, Bool, true, false, Some, None, refl, ap, ◌∙◌, arith}
use Rattle.std.specs.Prelude.{◌==◌, if◌then◌else◌, option_map, nat_lt}
use Rattle.std.proofs.lemmas.Bool.{ltb-false}
use Rattle.std.proofs.lemmas.List.{length-drop}
use Rattle.std.proofs.lemmas.Option.{some_pair_parts}
use Rattle.psi_tables.specs.Runs.{things_of}
use Rattle.psi_tables.proofs.RunLemmas.{Shortens, things_more, things_ended}
use Rattle.table_descriptors.proofs.FindingLemmas.{front, none}
use Rattle.service_names.specs.Services.{Service, service_size, front_service, service_at, descriptors_of, shown_service}

abbrev split_service : List ℕ → Service × List ℕ
split_service bytes = (front_service bytes, drop (service_size bytes) bytes)

shorter_by : (b : Bool) (bytes : List ℕ) (s : Service) (rest : List ℕ) → nat_lt (length bytes) (service_size bytes) ≡ b
    → (if b then None else Some (split_service bytes)) ≡ Some (s, rest) → length rest < length bytes
shorter_by true bytes s rest t h = absurd cc
shorter_by false bytes s rest t h =
    let long = ltb-false (length bytes) (service_size bytes) t in
    let is = (some_pair_parts (split_service bytes).0 s (split_service bytes).1 rest h).1 in
    let size = ap (λ (xs : List ℕ). length xs) is in
    omega (arith, length-drop (service_size bytes) bytes)

service_shortens : Shortens service_at
unfolding service_at
service_shortens bytes s rest h = shorter_by _ bytes s rest refl h

more_services : (bytes : List ℕ) (number : ℕ) (descriptors rest : List ℕ) → Some (number, descriptors, rest) ≡ option_map shown_service (service_at bytes)
    → (s : Service) × (things_of service_at bytes ≡ s ∷ things_of service_at rest) × (s.number ≡ number) × (s.descriptors ≡ descriptors)
more_services bytes number descriptors rest h =
    let f = front shown_service service_at bytes number descriptors rest h in
    (f.thing.0, (things_more service_at service_shortens bytes f.thing.0 f.thing.1 f.taken ∙ ap (λ (r : List ℕ). f.thing.0 ∷ things_of service_at r) f.rest-is), f.key-is, f.part-is)

pub service_shorter : (bytes : List ℕ) (number : ℕ) (descriptors rest : List ℕ) → Some (number, descriptors, rest) ≡ option_map shown_service (service_at bytes) → length rest < length bytes
service_shorter bytes number descriptors rest h =
    let f = front shown_service service_at bytes number descriptors rest h in
    let short = service_shortens bytes f.thing.0 f.thing.1 f.taken in
    rw (← f.rest-is) short

module _ (wanted : ℕ) where
  pub service_here : (bytes : List ℕ) (number : ℕ) (descriptors rest : List ℕ) → Some (number, descriptors, rest) ≡ option_map shown_service (service_at bytes) → (number == wanted) ≡ true
      → descriptors_of wanted (things_of service_at bytes) ≡ Some descriptors
  service_here bytes number descriptors rest h t =
      let m = more_services bytes number descriptors rest h in
      let test : (m.0.number == wanted) ≡ true = rw m.2 t in
      rw (m.1, test, m.3) refl

  pub service_later : (bytes : List ℕ) (number : ℕ) (descriptors rest : List ℕ) → Some (number, descriptors, rest) ≡ option_map shown_service (service_at bytes) → (number == wanted) ≡ false
      → descriptors_of wanted (things_of service_at bytes) ≡ descriptors_of wanted (things_of service_at rest)
  service_later bytes number descriptors rest h t =
      let m = more_services bytes number descriptors rest h in
      let test : (m.0.number == wanted) ≡ false = rw m.2 t in
      rw (m.1, test) refl

  pub service_never : (bytes : List ℕ) → None ≡ option_map shown_service (service_at bytes) → descriptors_of wanted (things_of service_at bytes) ≡ None
  service_never bytes h = rw (things_ended service_at service_shortens bytes (none shown_service service_at bytes h)) refl
