-- The rules of code files: the printed number of each, and its words.
use Rattle.std.specs.Prelude.{ℕ, ◌++◌, List, codes}
use Rattle.code_file.specs.declared.rule.CodeRule.{CodeRule}
use Rattle.code_file.specs.declared.rule.CodeRule.TheVariants.{NoHeader, EndsEarly, OutOfRange, NotZero, AfterEnd}

abbrev pub code_rule_entry : CodeRule → List ℕ × List ℕ
code_rule_entry NoHeader = (codes "K1", codes "no header")
code_rule_entry EndsEarly = (codes "K2", codes "file ends early")
code_rule_entry OutOfRange = (codes "K3", codes "field out of range")
code_rule_entry NotZero = (codes "K4", codes "unused field not zero")
code_rule_entry AfterEnd = (codes "K5", codes "bytes after the end")

-- the whole message: the number, a blank, the words
abbrev pub code_rule_text : CodeRule → List ℕ
code_rule_text x = (code_rule_entry x).0 ++ (codes " " ++ (code_rule_entry x).1)
