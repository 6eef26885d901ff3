-- Each call is on the reader that the last one returned: the same text, and the line that was reached. So the calls are a run from the first line.
use Rattle.std.proofs.Common.{◌≡◌, ap, ◌∙◌, List, [], ◌∷◌, ℕ, Bor}
use Rattle.decoder.specs.Open.{run}
use Rattle.calls_opened.specs.Answers.{answers_form, answers_of}
use Rattle.decoder_bytecode.specs.Forms.{open_form, open_of, step_form, step_of}
use Rattle.calls_opened.specs.declared.Answers.{Answers}
use Rattle.decoder_bytecode.specs.declared.Opened.{Opened}
use Rattle.decoder_bytecode.specs.declared.Step.{Step}
use Rattle.calls_opened.proofs.two_calls.Goals as goal

-- the result of the three calls
abbrev joined : Opened → Step → Step → Answers
joined o a b = record { opening = o.opening; first = a.found; second = b.found }

run_of_two : (s : Bor (List ℕ)) (o : Opened) (a b : Step) → open_form o ≡ open_of s → step_form a ≡ step_of o.bytecode → step_form b ≡ step_of a.bytecode
    → answers_form (joined o a b) ≡ answers_of s.now
unfolding run
run_of_two s o a b e e₁ e₂ =
    let d₁ : step_form a ≡ step_of (open_of s).bytecode = e₁ ∙ ap (λ x. step_of x.bytecode) e in
    let d₂ : step_form b ≡ step_of (step_of (open_of s).bytecode).bytecode = e₂ ∙ ap (λ x. step_of x.bytecode) d₁ in
    ap (λ x. record { opening = x.answer; calls = (step_form a).answer ∷ (step_form b).answer ∷ [] }) e
    ∙ (ap (λ x. record { opening = (open_of s).answer; calls = x.answer ∷ (step_form b).answer ∷ [] }) d₁
    ∙ ap (λ x. record { opening = (open_of s).answer; calls = (step_of (open_of s).bytecode).answer ∷ x.answer ∷ [] }) d₂)

pub returns : goal.returns
returns c =
    run_of_two c.args.text c.open-opened.result c.next-first.result c.next-second.result c.open-opened.ensures c.next-first.ensures c.next-second.ensures
