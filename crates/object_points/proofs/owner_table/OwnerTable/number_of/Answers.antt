use Rattle.std.proofs.Common.{◌≡◌, ℕ, ◌+◌, ◌*◌, ◌<◌, Bool, true, false, List, length, get_or, sym, ap, ◌∙◌, subst, arith}
use Rattle.std.specs.Prelude.{IfSome, slice_get}
use Rattle.program_graph.specs.declared.parts.Owner.{Owner}
use Rattle.alternatives.specs.Points.{address_of_point}
use Rattle.symbols_relocs.specs.Covers.{is_uncovered}
use Rattle.symbols_relocs.specs.NamedCode.{is_in_named_code}
use Rattle.symbols_relocs.specs.Extents.{have_byte}
use Rattle.symbols_relocs.specs.declared.extents.Extent.{Extent}
use Rattle.ot_base.specs.declared.place.Place.{Place}
use Rattle.flow_defs.specs.Coded.{Coded}
use Rattle.flow_defs.specs.Code.{alternatives_of, point_at, points_of_object}
use Rattle.flow_defs.specs.Program.{is_loose_point, is_patch_section}
use Rattle.object_points.specs.declared.code_owners.CodeOwner.{CodeOwner}
use Rattle.object_points.specs.Owners.{AreOwners, IsOwnerOf, OwnerList, all_owners}
use Rattle.object_points.proofs.Fourfold.{which}
use Rattle.object_points.proofs.OwnersOf.{few_which, loose_owner, more_owners, number_inside, plain_owner, some_owners}
use Rattle.object_points.proofs.owner_table.OwnerTable.number_of.Goals as goal

module _ (t : OwnerList) (items : List CodeOwner) (numbers : List ℕ) (some : Bool) (loose covered : List Extent) (have : AreOwners t.object t.lists items numbers t.owners some loose covered) (n : ℕ) (inside : n < length (points_of_object t.object)) (u p : Bool) (own : ℕ) (is : own ≡ which u p) (uncovered : u ≡ is_uncovered t.object.elf (point_at t.object n).place) (patched : p ≡ is_patch_section t.object.elf (point_at t.object n).place.sec) where
  plain_item : false ≡ is_loose_point t.object t.lists (point_at t.object n) → IfSome (slice_get t.owners (4 * get_or numbers n 0 + own)) (IsOwnerOf t.object t.lists n)
  plain_item other =
      subst (λ (os : List Owner). IfSome (slice_get os (4 * get_or numbers n 0 + own)) (IsOwnerOf t.object t.lists n)) (sym have.all)
      (subst (λ (w : ℕ). IfSome (slice_get (all_owners some items) (4 * get_or numbers n 0 + w)) (IsOwnerOf t.object t.lists n)) (sym is)
      (plain_owner t.object items numbers have.told n inside some (is_loose_point t.object t.lists (point_at t.object n)) (is_uncovered t.object.elf (point_at t.object n).place) (is_patch_section t.object.elf (point_at t.object n).place.sec) u p patched other uncovered))

  loose_item : some ≡ true → true ≡ is_loose_point t.object t.lists (point_at t.object n) → IfSome (slice_get t.owners (4 * length items + (4 * get_or numbers n 0 + own))) (IsOwnerOf t.object t.lists n)
  loose_item has its =
      subst (λ (os : List Owner). IfSome (slice_get os (4 * length items + (4 * get_or numbers n 0 + own))) (IsOwnerOf t.object t.lists n)) (sym (have.all ∙ ap (λ (b : Bool). all_owners b items) has))
      (subst (λ (w : ℕ). IfSome (slice_get (all_owners true items) (4 * length items + (4 * get_or numbers n 0 + w))) (IsOwnerOf t.object t.lists n)) (sym is)
      (loose_owner t.object items numbers have.told n inside (is_loose_point t.object t.lists (point_at t.object n)) (is_uncovered t.object.elf (point_at t.object n).place) (is_patch_section t.object.elf (point_at t.object n).place.sec) u p patched its uncovered))

  plain_inside : 4 * get_or numbers n 0 + own < length t.owners
  plain_inside = omega (arith, number_inside t.object items numbers have.told n inside, some_owners some items, ap length have.all, is, few_which u p)

  loose_inside : some ≡ true → 4 * length items + (4 * get_or numbers n 0 + own) < length t.owners
  loose_inside has = omega (arith, number_inside t.object items numbers have.told n inside, more_owners items, ap length (have.all ∙ ap (λ (b : Bool). all_owners b items) has), is, few_which u p)

  small : 4 * length items + (4 * get_or numbers n 0 + own) < 100000000
  small = omega (arith, number_inside t.object items numbers have.told n inside, have.few, is, few_which u p)

pub returns-then-not-self-clause-inside : goal.returns-then-not-self-clause-inside
returns-then-not-self-clause-inside c =
    let t : OwnerList = c.args.self.now in
    let items : List CodeOwner = c.self.inside.items.now in
    let numbers : List ℕ = c.self.inside.numbers.now in
    let have : AreOwners t.object t.lists items numbers t.owners c.self.inside.has_loose c.self.inside.loose c.self.inside.covered = subst (λ (l : OwnerList). AreOwners l.object l.lists items numbers l.owners c.self.inside.has_loose c.self.inside.loose c.self.inside.covered) c.self.view_is c.self.invariant.0 in
    plain_inside t items numbers c.self.inside.has_loose c.self.inside.loose c.self.inside.covered have c.args.n c.requires c.is_uncovered.result c.is_in_patches.result c.which-own.result c.which-own.ensures c.is_uncovered.ensures c.is_in_patches.ensures

pub returns-then-not-self-clause-item : goal.returns-then-not-self-clause-item
returns-then-not-self-clause-item c =
    let t : OwnerList = c.args.self.now in
    let items : List CodeOwner = c.self.inside.items.now in
    let numbers : List ℕ = c.self.inside.numbers.now in
    let have : AreOwners t.object t.lists items numbers t.owners c.self.inside.has_loose c.self.inside.loose c.self.inside.covered = subst (λ (l : OwnerList). AreOwners l.object l.lists items numbers l.owners c.self.inside.has_loose c.self.inside.loose c.self.inside.covered) c.self.view_is c.self.invariant.0 in
    let a = address_of_point (alternatives_of t.object) (point_at t.object c.args.n) in
    plain_item t items numbers c.self.inside.has_loose c.self.inside.loose c.self.inside.covered have c.args.n c.requires c.is_uncovered.result c.is_in_patches.result c.which-own.result c.which-own.ensures c.is_uncovered.ensures c.is_in_patches.ensures (sym (have.none_loose c.if-not-self.true a) ∙ have.loose_code a)

pub overflow_add-result : goal.overflow_add-result
overflow_add-result c =
    let t : OwnerList = c.args.self.now in
    let items : List CodeOwner = c.self.inside.items.now in
    let numbers : List ℕ = c.self.inside.numbers.now in
    let have : AreOwners t.object t.lists items numbers t.owners c.self.inside.has_loose c.self.inside.loose c.self.inside.covered = subst (λ (l : OwnerList). AreOwners l.object l.lists items numbers l.owners c.self.inside.has_loose c.self.inside.loose c.self.inside.covered) c.self.view_is c.self.invariant.0 in
    omega (arith, small t items numbers c.self.inside.has_loose c.self.inside.loose c.self.inside.covered have c.args.n c.requires c.is_uncovered.result c.is_in_patches.result c.which-own.result c.which-own.ensures c.is_uncovered.ensures c.is_in_patches.ensures)

pub returns-then-contains-clause-inside : goal.returns-then-contains-clause-inside
returns-then-contains-clause-inside c =
    let t : OwnerList = c.args.self.now in
    let items : List CodeOwner = c.self.inside.items.now in
    let numbers : List ℕ = c.self.inside.numbers.now in
    let have : AreOwners t.object t.lists items numbers t.owners c.self.inside.has_loose c.self.inside.loose c.self.inside.covered = subst (λ (l : OwnerList). AreOwners l.object l.lists items numbers l.owners c.self.inside.has_loose c.self.inside.loose c.self.inside.covered) c.self.view_is c.self.invariant.0 in
    loose_inside t items numbers c.self.inside.has_loose c.self.inside.loose c.self.inside.covered have c.args.n c.requires c.is_uncovered.result c.is_in_patches.result c.which-own.result c.which-own.ensures c.is_uncovered.ensures c.is_in_patches.ensures c.if-not-self.false

pub returns-then-contains-clause-item : goal.returns-then-contains-clause-item
returns-then-contains-clause-item c =
    let t : OwnerList = c.args.self.now in
    let items : List CodeOwner = c.self.inside.items.now in
    let numbers : List ℕ = c.self.inside.numbers.now in
    let have : AreOwners t.object t.lists items numbers t.owners c.self.inside.has_loose c.self.inside.loose c.self.inside.covered = subst (λ (l : OwnerList). AreOwners l.object l.lists items numbers l.owners c.self.inside.has_loose c.self.inside.loose c.self.inside.covered) c.self.view_is c.self.invariant.0 in
    let object : c.self.inside.places.now ≡ t.object = ap (λ (l : OwnerList). l.object) c.self.view_is in
    let here : c.address.result ≡ address_of_point (alternatives_of t.object) (point_at t.object c.args.n) = c.address.ensures ∙ ap (λ (e : Coded). address_of_point (alternatives_of e) (point_at e c.args.n)) object in
    let tells : have_byte c.self.inside.loose c.address.result ≡ is_loose_point t.object t.lists (point_at t.object c.args.n) = have.loose_code c.address.result ∙ ap (λ (a : Place). is_in_named_code t.object.elf t.lists.loose a) here in
    loose_item t items numbers c.self.inside.has_loose c.self.inside.loose c.self.inside.covered have c.args.n c.requires c.is_uncovered.result c.is_in_patches.result c.which-own.result c.which-own.ensures c.is_uncovered.ensures c.is_in_patches.ensures c.if-not-self.false (c.if-contains.ensures ∙ tells)

pub returns-else-contains-clause-inside : goal.returns-else-contains-clause-inside
returns-else-contains-clause-inside c =
    let t : OwnerList = c.args.self.now in
    let items : List CodeOwner = c.self.inside.items.now in
    let numbers : List ℕ = c.self.inside.numbers.now in
    let have : AreOwners t.object t.lists items numbers t.owners c.self.inside.has_loose c.self.inside.loose c.self.inside.covered = subst (λ (l : OwnerList). AreOwners l.object l.lists items numbers l.owners c.self.inside.has_loose c.self.inside.loose c.self.inside.covered) c.self.view_is c.self.invariant.0 in
    plain_inside t items numbers c.self.inside.has_loose c.self.inside.loose c.self.inside.covered have c.args.n c.requires c.is_uncovered.result c.is_in_patches.result c.which-own.result c.which-own.ensures c.is_uncovered.ensures c.is_in_patches.ensures

pub returns-else-contains-clause-item : goal.returns-else-contains-clause-item
returns-else-contains-clause-item c =
    let t : OwnerList = c.args.self.now in
    let items : List CodeOwner = c.self.inside.items.now in
    let numbers : List ℕ = c.self.inside.numbers.now in
    let have : AreOwners t.object t.lists items numbers t.owners c.self.inside.has_loose c.self.inside.loose c.self.inside.covered = subst (λ (l : OwnerList). AreOwners l.object l.lists items numbers l.owners c.self.inside.has_loose c.self.inside.loose c.self.inside.covered) c.self.view_is c.self.invariant.0 in
    let object : c.self.inside.places.now ≡ t.object = ap (λ (l : OwnerList). l.object) c.self.view_is in
    let here : c.address.result ≡ address_of_point (alternatives_of t.object) (point_at t.object c.args.n) = c.address.ensures ∙ ap (λ (e : Coded). address_of_point (alternatives_of e) (point_at e c.args.n)) object in
    let tells : have_byte c.self.inside.loose c.address.result ≡ is_loose_point t.object t.lists (point_at t.object c.args.n) = have.loose_code c.address.result ∙ ap (λ (a : Place). is_in_named_code t.object.elf t.lists.loose a) here in
    plain_item t items numbers c.self.inside.has_loose c.self.inside.loose c.self.inside.covered have c.args.n c.requires c.is_uncovered.result c.is_in_patches.result c.which-own.result c.which-own.ensures c.is_uncovered.ensures c.is_in_patches.ensures (c.if-contains.ensures ∙ tells)
