-- The order of SAVE points.
use Rattle.std.proofs.Common.{◌≡◌, ℕ, Bool, true, false, List, inl, inr, Option, refl, sym, ◌∙◌}
use Rattle.std.specs.Cmp.{IsStrictWeakOrder, IsTotalOrder}
use Rattle.std.specs.List.Sorted.{IsSortedBy}
use Rattle.std.specs.declared.cmp.Ordering.{Ordering}
use Rattle.std.specs.declared.cmp.Ordering.TheVariants.{Less, Equal, Greater}
use Rattle.std.specs.Ordering.{nat_cmp, is_lt, ordering_then}
use Rattle.std.proofs.lemmas.Bool.{cases_Bool, false≢true}
use Rattle.std.proofs.lemmas.Cmp.{back_total, nat_cmp_total, on_total, then_total}
use Rattle.std.proofs.lemmas.List.MinMax.{ranks_by}
use Rattle.std.proofs.lemmas.List.Sorted.{sorted_far}
use Rattle.std.specs.Cmp.Lexicographic.{options_total}
use Rattle.ot_base.specs.declared.place.Place.{Place}
use Rattle.alternatives.proofs.PointOrder.{place_total}
use Rattle.object_points.specs.declared.saves.SavePoint.{SavePoint}
use Rattle.object_points.specs.SaveOrder.{home_cmp, save_cmp, AreInOrder}

home_total : IsTotalOrder (λ (a b : SavePoint). home_cmp a.owner a.address b.owner b.address)
home_total = then_total (on_total (λ (s : SavePoint). s.owner) (options_total nat_cmp_total)) (on_total (λ (s : SavePoint). s.address) place_total)

save_total : IsTotalOrder save_cmp
save_total = then_total (then_total home_total (back_total (on_total (λ (s : SavePoint). s.variant) nat_cmp_total))) (back_total (on_total (λ (s : SavePoint). s.number) nat_cmp_total))

pub in_order : (saves : List SavePoint) → IsSortedBy (λ (a b : SavePoint). is_lt (save_cmp a b)) saves → AreInOrder saves
in_order saves up i j d order inside = sorted_far (λ (a b : SavePoint). is_lt (save_cmp a b)) (ranks_by save_total (λ (s : SavePoint). s)) saves up i j d order inside

-- what isn't lower isn't so by its first part
then_not : (a b : Ordering) → is_lt (ordering_then a b) ≡ false → is_lt a ≡ false
then_not Less b h = h
then_not Equal b h = refl
then_not Greater b h = refl

pub home_not : (a b : SavePoint) → is_lt (save_cmp a b) ≡ false → is_lt (home_cmp a.owner a.address b.owner b.address) ≡ false
home_not a b h =
    let home = home_cmp a.owner a.address b.owner b.address in
    let variants = nat_cmp b.variant a.variant in
    then_not home variants (then_not (ordering_then home variants) (nat_cmp b.number a.number) h)

abbrev probe : Option ℕ → Place → SavePoint
probe owner address = record { owner = owner; address = address; variant = 0; number = 0 }

abbrev lower : SavePoint → SavePoint → Bool
lower a b = is_lt (home_cmp a.owner a.address b.owner b.address)

-- what is in front of one that is before an address is before it too
pub before_in_front : (owner : Option ℕ) (address : Place) (p q : SavePoint) → is_lt (save_cmp q p) ≡ false → is_lt (home_cmp q.owner q.address owner address) ≡ true → is_lt (home_cmp p.owner p.address owner address) ≡ true
before_in_front owner address p q not_before before =
    let weak : IsStrictWeakOrder lower = ranks_by home_total (λ (s : SavePoint). s) in
    let z : SavePoint = probe owner address in
    elim (cases_Bool (lower p z)) [
      | inl holds ↦ holds
      | inr fails ↦ absurd (false≢true (sym (weak.chain q p z (home_not q p not_before) fails) ∙ before))
    ]
