-- `piece_at` meets its contract.
use Rattle.std.proofs.Common.{ℕ, List, ap, ◌∙◌, refl, arith}
use denote.Ref.{Bor}
use Rattle.asm_rows.proofs.EndLaws.{got_from}
use Rattle.asm_rows.proofs.OperandLaws.{piece_fits, piece_from}
use Rattle.asm_rows.proofs.piece_at.Goals as goal

pub overflow_add-result : goal.overflow_add-result
overflow_add-result c =
    piece_fits _ _ _ _ (ap (λ (x : Bor (List ℕ)). x.now) c.unwrap_or.ensures ∙ got_from _ _ _ _ c.get.ensures.lookup.0 refl) (omega arith) (omega arith) c.first_piece-piece.ensures

pub returns : goal.returns
returns c = piece_from _ _ _ _ (ap (λ (x : Bor (List ℕ)). x.now) c.unwrap_or.ensures ∙ got_from _ _ _ _ c.get.ensures.lookup.0 refl) c.first_piece-piece.ensures
