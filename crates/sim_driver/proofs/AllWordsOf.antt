-- What is said of all words, by whether they ask for a run of code.
use Rattle.std.proofs.Common.{◌≡◌, ◌∙◌, ℕ, List, Option, Some, None, sym, ap, subst}
use Rattle.std.specs.Prelude.{IfSome, MatchOption}
use Rattle.command_line.specs.Executed.{CodeRequest, code_request_of}
use Rattle.sim_base.specs.declared.limits.Limits.{Limits}
use Rattle.sim_driver.specs.AllWords.{AskCodeRunWith, AskRun, AskSourceRunWith, IsAnswerTo, RunWasCutOff, TellsNamed, named_by, named_file}
use Rattle.sim_driver.specs.Answer.{Answer, IsAnswer}
use Rattle.sim_driver.specs.CodeAnswer.{IsCodeAnswer, IsCodeCutOff}
use Rattle.sim_driver.specs.Words.{AsksRun, AsksRunWith, TellsFile, WasCutOff, file_of}

-- ---- the words ask for a run of code

module _ (words : List (List ℕ)) (request : CodeRequest) (is : Some request ≡ code_request_of words) where
  pub names_code : named_file words ≡ Some request.file
  names_code = ap (λ (o : Option CodeRequest). named_by o (file_of words)) (sym is)

  pub not_both : code_request_of words ≡ None → ⊥
  not_both none = differ (is ∙ none)
    where
      differ : Some request ≡ None → ⊥
      differ h = cc h

  pub named_so : named_file words ≡ None → ⊥
  named_so named = differ (sym names_code ∙ named)
    where
      differ : Some request.file ≡ None → ⊥
      differ h = cc h

  same_some : (xs ys : List ℕ) → Some xs ≡ Some ys → xs ≡ ys
  same_some xs ys h = cc h

  pub same_file : (file : List ℕ) → named_file words ≡ Some file → file ≡ request.file
  same_file file named = same_some file request.file (sym named ∙ names_code)

  pub chosen_code : {C : Type 0} (name : C → List ℕ) (o : Option C) → IfSome o (λ x. name x ≡ request.file) → IfSome o (λ x. named_file words ≡ Some (name x))
  chosen_code name None h = tt
  chosen_code name (Some x) h = names_code ∙ ap Some (sym h)

  pub tells_code : (content : List ℕ → Option (List ℕ)) (file : List ℕ) → TellsNamed content words file → content request.file ≡ Some file
  tells_code content file h = subst (λ (o : Option CodeRequest). MatchOption o (TellsFile content words file) (λ r. content r.file ≡ Some file)) (sym is) h

  pub code_answer : (file input : List ℕ) (answer : Answer) → IsAnswerTo words file input answer → IsCodeAnswer request.limits file input answer
  code_answer file input answer h = subst (λ (o : Option CodeRequest). MatchOption o (IsAnswer words file input answer) (λ r. IsCodeAnswer r.limits file input answer)) (sym is) h

  pub answers_code : (file input : List ℕ) (answer : Answer) → IsCodeAnswer request.limits file input answer → IsAnswerTo words file input answer
  answers_code file input answer h = subst (λ (o : Option CodeRequest). MatchOption o (IsAnswer words file input answer) (λ r. IsCodeAnswer r.limits file input answer)) is h

  pub code_cut : (faults now : ℕ) (file input : List ℕ) (old new : Option (List ℕ)) → IsCodeCutOff faults now request.limits file input old new → RunWasCutOff faults now words file input old new
  code_cut faults now file input old new h = subst (λ (o : Option CodeRequest). MatchOption o (WasCutOff faults now words file input old new) (λ r. IsCodeCutOff faults now r.limits file input old new)) is h

  pub asks_code : AskRun words
  asks_code = subst (λ (o : Option CodeRequest). MatchOption o (AsksRun words) (λ r. Unit {0})) is tt

  pub code_limits : (l : Limits) → AskCodeRunWith words l → request.limits ≡ l
  code_limits l h = subst (λ (o : Option CodeRequest). MatchOption o ⊥ (λ r. r.limits ≡ l)) (sym is) h

  pub no_source : (l : Limits) → AskSourceRunWith words l → ⊥
  no_source l h = subst (λ (o : Option CodeRequest). MatchOption o (AsksRunWith words l) (λ r. ⊥)) (sym is) h

-- ---- they ask for something else, or for nothing

module _ (words : List (List ℕ)) (is : None ≡ code_request_of words) where
  pub names_other : named_file words ≡ file_of words
  names_other = ap (λ (o : Option CodeRequest). named_by o (file_of words)) (sym is)

  pub chosen_other : {C : Type 0} (name : C → List ℕ) (o : Option C) → IfSome o (λ x. file_of words ≡ Some (name x)) → IfSome o (λ x. named_file words ≡ Some (name x))
  chosen_other name None h = tt
  chosen_other name (Some x) h = names_other ∙ h

  pub tells_other : (content : List ℕ → Option (List ℕ)) (file : List ℕ) → TellsNamed content words file → TellsFile content words file
  tells_other content file h = subst (λ (o : Option CodeRequest). MatchOption o (TellsFile content words file) (λ r. content r.file ≡ Some file)) (sym is) h

  pub other_answer : (file input : List ℕ) (answer : Answer) → IsAnswerTo words file input answer → IsAnswer words file input answer
  other_answer file input answer h = subst (λ (o : Option CodeRequest). MatchOption o (IsAnswer words file input answer) (λ r. IsCodeAnswer r.limits file input answer)) (sym is) h

  pub answers_other : (file input : List ℕ) (answer : Answer) → IsAnswer words file input answer → IsAnswerTo words file input answer
  answers_other file input answer h = subst (λ (o : Option CodeRequest). MatchOption o (IsAnswer words file input answer) (λ r. IsCodeAnswer r.limits file input answer)) is h

  pub other_cut : (faults now : ℕ) (file input : List ℕ) (old new : Option (List ℕ)) → WasCutOff faults now words file input old new → RunWasCutOff faults now words file input old new
  other_cut faults now file input old new h = subst (λ (o : Option CodeRequest). MatchOption o (WasCutOff faults now words file input old new) (λ r. IsCodeCutOff faults now r.limits file input old new)) is h

  pub asks_other : AsksRun words → AskRun words
  asks_other h = subst (λ (o : Option CodeRequest). MatchOption o (AsksRun words) (λ r. Unit {0})) is h

  pub no_code : (l : Limits) → AskCodeRunWith words l → ⊥
  no_code l h = subst (λ (o : Option CodeRequest). MatchOption o ⊥ (λ r. r.limits ≡ l)) (sym is) h

  pub asks_source : (l : Limits) → AskSourceRunWith words l → AsksRunWith words l
  asks_source l h = subst (λ (o : Option CodeRequest). MatchOption o (AsksRunWith words l) (λ r. ⊥)) (sym is) h
