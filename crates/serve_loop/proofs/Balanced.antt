-- Moves give one list of balances: two lists of them are as long as there are nodes, and the moves determine the value at each place.
use Rattle.std.proofs.Common.{◌≡◌, ◌∙◌, sym, subst, ℕ, ◌<◌, ℤ, pos, List}
use Rattle.std.proofs.lemmas.List.{ext_get_or}
use Rattle.reply_model.specs.declared.moves.Move.{Move}
use Rattle.serve_loop.specs.Serving.{AreBalances}

-- two lists of balances from the same moves are the same
pub one_balances : (moves : List Move) (nodes : ℕ) (xs ys : List ℤ) → AreBalances moves nodes xs → AreBalances moves nodes ys → xs ≡ ys
one_balances moves nodes xs ys x y = ext_get_or (pos 0) xs ys (x.same ∙ sym y.same) (λ i l. x.each i (subst (λ n. i < n) x.same l)
    ∙ sym (y.each i (subst (λ n. i < n) x.same l)))
