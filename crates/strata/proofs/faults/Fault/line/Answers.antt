use Rattle.std.proofs.Common.{◌∙◌, ap, [], ◌∷◌, ◌++◌}
use Rattle.std.proofs.lemmas.Fmt.{contents_after_writes}
use Rattle.strata.specs.Texts.{fault_text}
use Rattle.strata.proofs.faults.Fault.line.Goals as goal

pub returns-in-Ok : goal.returns-in-Ok
returns-in-Ok c =
    let text = fault_text c.args.self.now ++ 10 ∷ [] in
    contents_after_writes _ (λ s. s.bytes) (λ _ _ _ t. t) _ text _ c.in-Ok.ensures.writes ∙ ap (λ l. l ++ text) c.new-line.ensures
