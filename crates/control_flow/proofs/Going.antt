-- Where control goes from the points, of one point more.
use Rattle.std.proofs.Common.{◌≡◌, ℕ, ◌+◌, ◌^◌, ◌<◌, Bool, List, [], ◌∷◌, ◌++◌, length, true, sym, ap, ◌∙◌, subst}
use Rattle.std.specs.Prelude.{is_some}
use Rattle.ot_base.specs.NameLists.{NameLists}
use Rattle.flow_defs.specs.Coded.{Coded}
use Rattle.machine_defs.specs.declared.flow.Edge.{Edge}
use Rattle.machine_defs.specs.declared.flow.EdgeKind.TheVariants.{Table}
use Rattle.machine_defs.specs.Program.{edge}
use Rattle.flow_defs.specs.Code.{point_at}
use Rattle.flow_defs.specs.Edges.{goes}
use Rattle.flow_defs.specs.Program.{calls_fentry_by}
use Rattle.flow_defs.specs.Roles.{role_of}
use Rattle.flow_defs.specs.Targets.{names_of}
use Rattle.program_graph.specs.declared.parts.Transfer.{Transfer}
use Rattle.return_search.specs.declared.searched_flow.Exit.{Exit}
use Rattle.return_search.specs.declared.searched_flow.Exit.TheVariants.{Passes}
use Rattle.control_flow.specs.Found.{IsExit, IsKept, IsListed}
use Rattle.control_flow.specs.Listed.{AreEdges, AreExits, count_of}
use Rattle.control_flow.specs.Lone.{AreLoneJumps, GoAlike, HasEdgesOf}
use Rattle.control_flow.specs.Numbers.{AreNumbered, IsNumbered}
use Rattle.control_flow.specs.Transfers.{IsTransfer, IsTransferIfBack}
use Rattle.control_flow.specs.declared.lone_jumps.LoneJumps.{LoneJumps}
use Rattle.control_flow.specs.declared.outgoing.Found.{Found}
use Rattle.control_flow.specs.declared.outgoing.Found.TheVariants.{Alike, Own}
use Rattle.control_flow.proofs.Fields.{plain_exit}
use Rattle.control_flow.proofs.Gathered.{edges_more, exits_more, next_alike, next_own, no_edges, no_exits, IsNext}
use Rattle.control_flow.proofs.GoesOn.{passes_calls_none}
use Rattle.control_flow.proofs.Numbering.{first_numbered, numbered_more}

-- the edges, the exits and the transfers of the first n points
pub record AreOutgoing (o : Coded) (lists : NameLists) (starts : List ℕ) (edges : List Edge) (jumps : LoneJumps) (exits : List Exit) (transfers : List Transfer) (numbers : List ℕ) (n : ℕ) : Type 0 where
  pub are_edges : AreEdges o starts edges jumps.alike.items n
  pub are_jumps : AreLoneJumps o jumps n
  pub are_exits : AreExits o lists exits n
  pub are_numbered : AreNumbered (IsTransferIfBack o) transfers numbers n

pub none_outgoing : (o : Coded) (lists : NameLists) (usual : Transfer) (jumps : LoneJumps) → jumps.alike.items ≡ [] → AreLoneJumps o jumps 0 → AreOutgoing o lists (0 ∷ []) [] jumps [] (usual ∷ []) [] 0
none_outgoing o lists usual jumps none are = record {
  are_edges = subst (λ (alike : List ℕ). AreEdges o (0 ∷ []) [] alike 0) (sym none) (no_edges o);
  are_jumps = are;
  are_exits = no_exits o lists;
  are_numbered = first_numbered (IsTransferIfBack o) usual;
}

module _ (o : Coded) (starts : List ℕ) (edges after : List Edge) (alike grown : List ℕ) (n : ℕ) (are : AreEdges o starts edges alike n) (here : n < count_of o) (few : length after < 2 ^ 32) where
  with_next : (new : List Edge) → after ≡ edges ++ new → IsNext o alike grown n new → AreEdges o (starts ++ length after ∷ []) after grown (n + 1)
  with_next new pushed next =
      subst (λ (es : List Edge). AreEdges o (starts ++ length es ∷ []) es grown (n + 1)) (sym pushed)
      (edges_more o starts edges alike n are grown new next (subst (λ (es : List Edge). length es < 2 ^ 32) pushed few))

  -- the edges with what is listed of one point more
  pub listed_more : (found : Found) → IsListed o n edges after alike grown found → AreEdges o (starts ++ length after ∷ []) after grown (n + 1)
  listed_more (Own exit transfer) listed =
      with_next (goes o (point_at o n)) listed.pushed
      (subst (λ (ns : List ℕ). IsNext o alike ns n (goes o (point_at o n))) (sym listed.unlisted) (next_own o alike n are.alike_below are.alike_ascend listed.inside))
  listed_more (Alike r) listed =
      with_next (edge r Table ∷ []) listed.pushed
      (subst (λ (ns : List ℕ). IsNext o alike ns n (edge r Table ∷ [])) (sym listed.listed)
      (next_alike o alike n r are.alike_below are.alike_ascend here (subst (λ (ns : List ℕ). HasEdgesOf o ns n r) listed.listed listed.edges_of)))

pub outgoing_more : (o : Coded) (lists : NameLists) (starts : List ℕ) (edges after : List Edge) (jumps grown : LoneJumps) (exits : List Exit) (transfers more : List Transfer) (numbers : List ℕ) (n : ℕ) (found : Found) (exit : Exit) (number : ℕ)
    → AreOutgoing o lists starts edges jumps exits transfers numbers n
    → n < count_of o
    → length after < 2 ^ 32
    → IsListed o n edges after jumps.alike.items grown.alike.items found
    → AreLoneJumps o grown (n + 1)
    → IsKept o lists n transfers more exit number
    → AreOutgoing o lists (starts ++ length after ∷ []) after grown (exits ++ exit ∷ []) more (numbers ++ number ∷ []) (n + 1)
outgoing_more o lists starts edges after jumps grown exits transfers more numbers n found exit number are here few listed jumps_are kept = record {
  are_edges = listed_more o starts edges after jumps.alike.items grown.alike.items n are.are_edges here few found listed;
  are_jumps = jumps_are;
  are_exits = exits_more o lists exits n exit are.are_exits kept.is_exit.is kept.is_exit.known;
  are_numbered = numbered_more (IsTransferIfBack o) transfers more numbers n number kept.transfer are.are_numbered kept.is_numbered kept.is_transfer;
}

-- what is kept of a point that goes like an earlier one, where its transfer has a number
pub kept_alike : (o : Coded) (lists : NameLists) (before after : List Transfer) (n r : ℕ) (transfer : Transfer) (number : ℕ) → GoAlike o (point_at o n) (point_at o r) → IsTransferIfBack o n transfer → IsNumbered before after transfer number → IsKept o lists n before after Passes number
kept_alike o lists before after n r transfer number alike own numbered = record {
  transfer = transfer;
  is_exit = record { is = plain_exit o lists n alike.role; known = passes_calls_none o };
  is_transfer = own;
  is_numbered = numbered;
}

-- the transfer of a point that goes like another: the same, with the symbol that it names itself
pub is_alike_transfer : (o : Coded) (n r : ℕ) (names : Bool) (x : Transfer) → is_some (names_of o (point_at o n)) ≡ names → GoAlike o (point_at o n) (point_at o r) → IsTransfer o r true x → IsTransfer o n true (record { role = x.role; marks = x.marks; calls_fentry = x.calls_fentry; names_symbol = names })
is_alike_transfer o n r names x named alike is =
    let role : role_of o (point_at o n) ≡ role_of o (point_at o r) = alike.role ∙ sym alike.other_role in
    record {
      role = role ∙ is.role;
      marks = alike.marks true ∙ is.marks;
      calls_fentry = ap (calls_fentry_by o) role ∙ is.calls_fentry;
      names = named;
    }

pub kept_own : (o : Coded) (lists : NameLists) (before after : List Transfer) (n : ℕ) (exit : Exit) (transfer : Transfer) (number : ℕ) → IsExit o lists n exit → IsTransferIfBack o n transfer → IsNumbered before after transfer number → IsKept o lists n before after exit number
kept_own o lists before after n exit transfer number is own numbered = record { transfer = transfer; is_exit = is; is_transfer = own; is_numbered = numbered }
