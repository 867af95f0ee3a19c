use Rattle.std.proofs.Common.{refl, [], ◌∷◌}
use Rattle.worked_models.specs.ClockedTrees.{two_edges, one_edge, at_an_edge_block, at_an_edge_thread, at_an_edge_model}
use Rattle.worked_models.proofs.CodeOf.{two_ticks}
use Rattle.worked_models.proofs.coded.the_code_with_a_reset_at_an_edge.Goals as goal

pub returns-clause-two : goal.returns-clause-two
returns-clause-two c r code coded =
    let law = c.clocked_threads_become_such_of_the_code.ensures.ticked r at_an_edge_model code coded 0 _ refl 2 1 at_an_edge_thread refl at_an_edge_block (two_edges ∷ one_edge ∷ []) c.the_thread_with_a_reset_at_an_edge.ensures.clocked in
    (two_ticks _ law.exception _ _ law.around.inside 1 refl refl (refl, (refl, (refl, tt))) two_edges one_edge law.coded_ticks refl refl law.has_ticks).0

pub returns-clause-one : goal.returns-clause-one
returns-clause-one c r code coded =
    let law = c.clocked_threads_become_such_of_the_code.ensures.ticked r at_an_edge_model code coded 0 _ refl 2 1 at_an_edge_thread refl at_an_edge_block (two_edges ∷ one_edge ∷ []) c.the_thread_with_a_reset_at_an_edge.ensures.clocked in
    (two_ticks _ law.exception _ _ law.around.inside 1 refl refl (refl, (refl, (refl, tt))) two_edges one_edge law.coded_ticks refl refl law.has_ticks).1
