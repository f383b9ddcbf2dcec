-- The run-time errors: the printed number of each, and its words.
use Rattle.std.specs.Prelude.{ℕ, ◌++◌, List, codes}
use Rattle.sim_base.specs.declared.run_error.RunError.{RunError}
use Rattle.sim_base.specs.declared.run_error.RunError.TheVariants.{IntegerOverflow, ZeroDivisor, BadExponent, SubscriptOutOfBounds, WrongNumberOfSubscripts, AccessThroughNone, OutsideQualification, NoMatch, ActualIsNoVariable, WrongNumberOfParameters, WrongParameter, NoSuchCharacter, ArrayTooLarge, SubtextOutOfRange, TextTooLong, TextIsConstant, GetcharPastEnd, PutcharPastEnd, NoIntegerItem, PutintOnNotext, NegativeLength, IntegerItemTooLarge, FieldTooLong, InputLineTooLong, InputAtEnd, NoItemBeforeEnd, NoneIsNoComponent, ComponentIsAttached, ComponentIsTerminated, ComponentIsResumed, ObjectNotOperating, SystemNotOperating, ResumedIsAttached, NoNoticeLeft, TimeTooLarge, NoEventTime, OtherSimulation}

abbrev pub run_error_entry : RunError → List ℕ × List ℕ
run_error_entry IntegerOverflow = (codes "E1", codes "integer overflow")
run_error_entry ZeroDivisor = (codes "E2", codes "zero divisor")
run_error_entry BadExponent = (codes "E3", codes "bad exponent")
run_error_entry SubscriptOutOfBounds = (codes "E4", codes "subscript out of bounds")
run_error_entry WrongNumberOfSubscripts = (codes "E5", codes "wrong number of subscripts")
run_error_entry AccessThroughNone = (codes "E6", codes "access through none")
run_error_entry OutsideQualification = (codes "E7", codes "value outside its qualification")
run_error_entry NoMatch = (codes "E8", codes "no match of a virtual")
run_error_entry ActualIsNoVariable = (codes "E9", codes "actual parameter is no variable")
run_error_entry WrongNumberOfParameters = (codes "E10", codes "wrong number of parameters")
run_error_entry WrongParameter = (codes "E11", codes "wrong kind or type of a parameter")
run_error_entry NoSuchCharacter = (codes "E12", codes "no such character")
run_error_entry ArrayTooLarge = (codes "E13", codes "array too large")
run_error_entry SubtextOutOfRange = (codes "E20", codes "subtext out of range")
run_error_entry TextTooLong = (codes "E21", codes "text too long for its place")
run_error_entry TextIsConstant = (codes "E22", codes "text is constant")
run_error_entry GetcharPastEnd = (codes "E23", codes "getchar past the end")
run_error_entry PutcharPastEnd = (codes "E24", codes "putchar past the end")
run_error_entry NoIntegerItem = (codes "E25", codes "no integer item")
run_error_entry PutintOnNotext = (codes "E26", codes "putint on notext")
run_error_entry NegativeLength = (codes "E27", codes "negative length")
run_error_entry IntegerItemTooLarge = (codes "E28", codes "integer item too large")
run_error_entry FieldTooLong = (codes "E30", codes "field longer than the image")
run_error_entry InputLineTooLong = (codes "E31", codes "input line longer than the image")
run_error_entry InputAtEnd = (codes "E32", codes "input is at its end")
run_error_entry NoItemBeforeEnd = (codes "E34", codes "no item before the end of input")
run_error_entry NoneIsNoComponent = (codes "E40", codes "none is no component")
run_error_entry ComponentIsAttached = (codes "E41", codes "component is attached")
run_error_entry ComponentIsTerminated = (codes "E42", codes "component is terminated")
run_error_entry ComponentIsResumed = (codes "E43", codes "component is resumed")
run_error_entry ObjectNotOperating = (codes "E44", codes "object is not operating")
run_error_entry SystemNotOperating = (codes "E45", codes "system is not operating")
run_error_entry ResumedIsAttached = (codes "E46", codes "component is attached")
run_error_entry NoNoticeLeft = (codes "E50", codes "no notice is left")
run_error_entry TimeTooLarge = (codes "E51", codes "time too large")
run_error_entry NoEventTime = (codes "E52", codes "no event time")
run_error_entry OtherSimulation = (codes "E53", codes "process of another simulation")

-- the printed number
abbrev pub run_error_code : RunError → List ℕ
run_error_code x = (run_error_entry x).0

-- the whole message: the number, a blank, the words
abbrev pub run_error_text : RunError → List ℕ
run_error_text x = run_error_code x ++ (codes " " ++ (run_error_entry x).1)
