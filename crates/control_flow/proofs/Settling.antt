-- The transfers of calls that can't come back.
use Rattle.std.proofs.Common.{◌≡◌, ℕ, ◌+◌, ◌<◌, ◌≤◌, ◌&&◌, Bool, true, false, refl, sym, ap, ◌∙◌, subst, arith, inl, inr}
use Rattle.std.specs.Prelude.{slice_index_or}
use Rattle.std.proofs.lemmas.Bool.{cases_lt}
use Rattle.flow_defs.specs.Coded.{Coded}
use Rattle.machine_defs.specs.declared.flow.Marks.{Marks}
use Rattle.program_graph.specs.declared.parts.Transfer.{Transfer}
use Rattle.return_search.specs.declared.found_returns.Returns.{Returns}
use Rattle.flow_defs.specs.Arrival.{is_at_end}
use Rattle.flow_defs.specs.Code.{point_at}
use Rattle.flow_defs.specs.Edges.{goes_on}
use Rattle.flow_defs.specs.Marks.{marks_of}
use Rattle.control_flow.specs.Transfers.{IsTransfer, IsTransferIfBack, IsTransferOf}

-- marks, where execution doesn't run past an end
abbrev pub within_end : Marks → Marks
within_end m = record { bad = m.bad; past_end = false; into_site = m.into_site; into_function = m.into_function; relocated = m.relocated }

abbrev pub without_back : Transfer → Transfer
without_back x = record { role = x.role; marks = within_end x.marks; calls_fentry = x.calls_fentry; names_symbol = x.names_symbol }

never : (a b : Bool) → (a && (b && false)) ≡ false
never true true = refl
never true false = refl
never false b = refl

pub is_without_back : (o : Coded) (q : ℕ) (x : Transfer) → IsTransfer o q true x → IsTransfer o q false (without_back x)
is_without_back o q x is = record {
  role = is.role;
  marks =
      ap (λ (b : Bool). let m : Marks = record { bad = (marks_of o (point_at o q) false).bad; past_end = b; into_site = (marks_of o (point_at o q) false).into_site; into_function = (marks_of o (point_at o q) false).into_function; relocated = (marks_of o (point_at o q) false).relocated } in m) (never (is_at_end o (point_at o q)) (goes_on o (point_at o q)))
      ∙ ap within_end is.marks;
  calls_fentry = is.calls_fentry;
  names = is.names;
}

-- the transfers of the points below k are known, and those of the others where their calls come back
pub record IsSettled (o : Coded) (returns : Returns) (k q : ℕ) (x : Transfer) : Type 0 where
  pub below : q < k → IsTransferOf o returns q x
  pub behind : k ≤ q → IsTransferIfBack o q x

module _ (o : Coded) (returns : Returns) where
  pub none_settled : (q : ℕ) (x : Transfer) → IsTransferIfBack o q x → IsSettled o returns 0 q x
  none_settled q x is = record { below = λ l. absurd (omega arith); behind = λ l. is }

  pub all_settled : (n q : ℕ) (x : Transfer) → q < n → IsSettled o returns n q x → IsTransferOf o returns q x
  all_settled n q x inside is = is.below inside

  pub one_settled : (k : ℕ) (x : Transfer) → IsTransferOf o returns k x → IsSettled o returns (k + 1) k x
  one_settled k x is = record { below = λ l. is; behind = λ l. absurd (omega arith) }

  pub others_settled : (k q : ℕ) (x : Transfer) → (q ≡ k → ⊥) → IsSettled o returns k q x → IsSettled o returns (k + 1) q x
  others_settled k q x other is = record {
    below = λ l. elim (cases_lt q k) [ inl less ↦ is.below less | inr past ↦ absurd (other (omega (arith, l, past))) ];
    behind = λ l. is.behind (omega (arith, l));
  }

  -- a point whose call comes back keeps its transfer
  pub back_settled : (k q : ℕ) (x : Transfer) → slice_index_or returns.comes_back.items k false ≡ true → IsSettled o returns k q x → IsSettled o returns (k + 1) q x
  back_settled k q x back is = record {
    below = λ l. elim (cases_lt q k) [
      | inl less ↦ is.below less
      | inr past ↦
          let same : q ≡ k = omega (arith, l, past) in
          subst (λ (b : Bool). IsTransfer o q b x) (sym (ap (λ (i : ℕ). slice_index_or returns.comes_back.items i false) same ∙ back)) (is.behind past)
    ];
    behind = λ l. is.behind (omega (arith, l));
  }
