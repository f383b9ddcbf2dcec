use Rattle.std.proofs.Common.{◌≡◌, arith}
use Rattle.code_file.proofs.Numbered.{known}
use Rattle.code_file.proofs.instructions.instr_of.Goals as goal

pub returns-in-0 : goal.returns-in-0
returns-in-0 c = known c.args.number 0 c.args.a c.args.b c.args.c c.ranges.a c.ranges.b c.ranges.c c.in-0.is

pub returns-in-1 : goal.returns-in-1
returns-in-1 c = known c.args.number 1 c.args.a c.args.b c.args.c c.ranges.a c.ranges.b c.ranges.c c.in-1.is

pub returns-in-2 : goal.returns-in-2
returns-in-2 c = known c.args.number 2 c.args.a c.args.b c.args.c c.ranges.a c.ranges.b c.ranges.c c.in-2.is

pub returns-in-3 : goal.returns-in-3
returns-in-3 c = known c.args.number 3 c.args.a c.args.b c.args.c c.ranges.a c.ranges.b c.ranges.c c.in-3.is

pub returns-in-4 : goal.returns-in-4
returns-in-4 c = known c.args.number 4 c.args.a c.args.b c.args.c c.ranges.a c.ranges.b c.ranges.c c.in-4.is

pub returns-in-5 : goal.returns-in-5
returns-in-5 c = known c.args.number 5 c.args.a c.args.b c.args.c c.ranges.a c.ranges.b c.ranges.c c.in-5.is

pub returns-in-6 : goal.returns-in-6
returns-in-6 c = known c.args.number 6 c.args.a c.args.b c.args.c c.ranges.a c.ranges.b c.ranges.c c.in-6.is

pub returns-in-7 : goal.returns-in-7
returns-in-7 c = known c.args.number 7 c.args.a c.args.b c.args.c c.ranges.a c.ranges.b c.ranges.c c.in-7.is

pub returns-in-8 : goal.returns-in-8
returns-in-8 c = known c.args.number 8 c.args.a c.args.b c.args.c c.ranges.a c.ranges.b c.ranges.c c.in-8.is

pub returns-in-9 : goal.returns-in-9
returns-in-9 c = known c.args.number 9 c.args.a c.args.b c.args.c c.ranges.a c.ranges.b c.ranges.c c.in-9.is

pub returns-in-10 : goal.returns-in-10
returns-in-10 c = known c.args.number 10 c.args.a c.args.b c.args.c c.ranges.a c.ranges.b c.ranges.c c.in-10.is

pub returns-in-11 : goal.returns-in-11
returns-in-11 c = known c.args.number 11 c.args.a c.args.b c.args.c c.ranges.a c.ranges.b c.ranges.c c.in-11.is

pub returns-in-12 : goal.returns-in-12
returns-in-12 c = known c.args.number 12 c.args.a c.args.b c.args.c c.ranges.a c.ranges.b c.ranges.c c.in-12.is

pub returns-in-13 : goal.returns-in-13
returns-in-13 c = known c.args.number 13 c.args.a c.args.b c.args.c c.ranges.a c.ranges.b c.ranges.c c.in-13.is

pub returns-in-14 : goal.returns-in-14
returns-in-14 c = known c.args.number 14 c.args.a c.args.b c.args.c c.ranges.a c.ranges.b c.ranges.c c.in-14.is

pub returns-in-15 : goal.returns-in-15
returns-in-15 c = known c.args.number 15 c.args.a c.args.b c.args.c c.ranges.a c.ranges.b c.ranges.c c.in-15.is

pub returns-in-16 : goal.returns-in-16
returns-in-16 c = known c.args.number 16 c.args.a c.args.b c.args.c c.ranges.a c.ranges.b c.ranges.c c.in-16.is

pub returns-in-17 : goal.returns-in-17
returns-in-17 c = known c.args.number 17 c.args.a c.args.b c.args.c c.ranges.a c.ranges.b c.ranges.c c.in-17.is

pub returns-in-18 : goal.returns-in-18
returns-in-18 c = known c.args.number 18 c.args.a c.args.b c.args.c c.ranges.a c.ranges.b c.ranges.c c.in-18.is

pub returns-in-19 : goal.returns-in-19
returns-in-19 c = known c.args.number 19 c.args.a c.args.b c.args.c c.ranges.a c.ranges.b c.ranges.c c.in-19.is

pub returns-in-20 : goal.returns-in-20
returns-in-20 c = known c.args.number 20 c.args.a c.args.b c.args.c c.ranges.a c.ranges.b c.ranges.c c.in-20.is

pub returns-in-21 : goal.returns-in-21
returns-in-21 c = known c.args.number 21 c.args.a c.args.b c.args.c c.ranges.a c.ranges.b c.ranges.c c.in-21.is

pub returns-in-22 : goal.returns-in-22
returns-in-22 c = known c.args.number 22 c.args.a c.args.b c.args.c c.ranges.a c.ranges.b c.ranges.c c.in-22.is

pub returns-in-23 : goal.returns-in-23
returns-in-23 c = known c.args.number 23 c.args.a c.args.b c.args.c c.ranges.a c.ranges.b c.ranges.c c.in-23.is

pub returns-in-24 : goal.returns-in-24
returns-in-24 c = known c.args.number 24 c.args.a c.args.b c.args.c c.ranges.a c.ranges.b c.ranges.c c.in-24.is

pub returns-in-25 : goal.returns-in-25
returns-in-25 c = known c.args.number 25 c.args.a c.args.b c.args.c c.ranges.a c.ranges.b c.ranges.c c.in-25.is

pub returns-in-26 : goal.returns-in-26
returns-in-26 c = known c.args.number 26 c.args.a c.args.b c.args.c c.ranges.a c.ranges.b c.ranges.c c.in-26.is

pub returns-in-27 : goal.returns-in-27
returns-in-27 c = known c.args.number 27 c.args.a c.args.b c.args.c c.ranges.a c.ranges.b c.ranges.c c.in-27.is

pub returns-in-28 : goal.returns-in-28
returns-in-28 c = known c.args.number 28 c.args.a c.args.b c.args.c c.ranges.a c.ranges.b c.ranges.c c.in-28.is

pub returns-in-29 : goal.returns-in-29
returns-in-29 c = known c.args.number 29 c.args.a c.args.b c.args.c c.ranges.a c.ranges.b c.ranges.c c.in-29.is

pub returns-in-30 : goal.returns-in-30
returns-in-30 c = known c.args.number 30 c.args.a c.args.b c.args.c c.ranges.a c.ranges.b c.ranges.c c.in-30.is

pub returns-in-31 : goal.returns-in-31
returns-in-31 c = known c.args.number 31 c.args.a c.args.b c.args.c c.ranges.a c.ranges.b c.ranges.c c.in-31.is

pub returns-in-32 : goal.returns-in-32
returns-in-32 c = known c.args.number 32 c.args.a c.args.b c.args.c c.ranges.a c.ranges.b c.ranges.c c.in-32.is

pub returns-in-33 : goal.returns-in-33
returns-in-33 c = known c.args.number 33 c.args.a c.args.b c.args.c c.ranges.a c.ranges.b c.ranges.c c.in-33.is

pub returns-in-34 : goal.returns-in-34
returns-in-34 c = known c.args.number 34 c.args.a c.args.b c.args.c c.ranges.a c.ranges.b c.ranges.c c.in-34.is

pub returns-in-35 : goal.returns-in-35
returns-in-35 c = known c.args.number 35 c.args.a c.args.b c.args.c c.ranges.a c.ranges.b c.ranges.c c.in-35.is

pub returns-in-36 : goal.returns-in-36
returns-in-36 c = known c.args.number 36 c.args.a c.args.b c.args.c c.ranges.a c.ranges.b c.ranges.c c.in-36.is

pub returns-in-37 : goal.returns-in-37
returns-in-37 c = known c.args.number 37 c.args.a c.args.b c.args.c c.ranges.a c.ranges.b c.ranges.c c.in-37.is

pub returns-in-38 : goal.returns-in-38
returns-in-38 c = known c.args.number 38 c.args.a c.args.b c.args.c c.ranges.a c.ranges.b c.ranges.c c.in-38.is

pub returns-in-39 : goal.returns-in-39
returns-in-39 c = known c.args.number 39 c.args.a c.args.b c.args.c c.ranges.a c.ranges.b c.ranges.c c.in-39.is

pub returns-in-40 : goal.returns-in-40
returns-in-40 c = known c.args.number 40 c.args.a c.args.b c.args.c c.ranges.a c.ranges.b c.ranges.c c.in-40.is

pub returns-in-41 : goal.returns-in-41
returns-in-41 c = known c.args.number 41 c.args.a c.args.b c.args.c c.ranges.a c.ranges.b c.ranges.c c.in-41.is

pub returns-in-42 : goal.returns-in-42
returns-in-42 c = known c.args.number 42 c.args.a c.args.b c.args.c c.ranges.a c.ranges.b c.ranges.c c.in-42.is

pub returns-in-43 : goal.returns-in-43
returns-in-43 c = known c.args.number 43 c.args.a c.args.b c.args.c c.ranges.a c.ranges.b c.ranges.c c.in-43.is

pub returns-in-44 : goal.returns-in-44
returns-in-44 c = known c.args.number 44 c.args.a c.args.b c.args.c c.ranges.a c.ranges.b c.ranges.c c.in-44.is

pub returns-in-45 : goal.returns-in-45
returns-in-45 c = known c.args.number 45 c.args.a c.args.b c.args.c c.ranges.a c.ranges.b c.ranges.c c.in-45.is

pub returns-in-46 : goal.returns-in-46
returns-in-46 c = known c.args.number 46 c.args.a c.args.b c.args.c c.ranges.a c.ranges.b c.ranges.c c.in-46.is

pub returns-in-47 : goal.returns-in-47
returns-in-47 c = known c.args.number 47 c.args.a c.args.b c.args.c c.ranges.a c.ranges.b c.ranges.c c.in-47.is

pub returns-in-48 : goal.returns-in-48
returns-in-48 c = known c.args.number 48 c.args.a c.args.b c.args.c c.ranges.a c.ranges.b c.ranges.c c.in-48.is

pub returns-in-49 : goal.returns-in-49
returns-in-49 c = known c.args.number 49 c.args.a c.args.b c.args.c c.ranges.a c.ranges.b c.ranges.c c.in-49.is

pub returns-in-50 : goal.returns-in-50
returns-in-50 c = known c.args.number 50 c.args.a c.args.b c.args.c c.ranges.a c.ranges.b c.ranges.c c.in-50.is

pub returns-in-51 : goal.returns-in-51
returns-in-51 c = known c.args.number 51 c.args.a c.args.b c.args.c c.ranges.a c.ranges.b c.ranges.c c.in-51.is

pub returns-in-52 : goal.returns-in-52
returns-in-52 c = known c.args.number 52 c.args.a c.args.b c.args.c c.ranges.a c.ranges.b c.ranges.c c.in-52.is

pub returns-in-53 : goal.returns-in-53
returns-in-53 c = known c.args.number 53 c.args.a c.args.b c.args.c c.ranges.a c.ranges.b c.ranges.c c.in-53.is

pub returns-in-54 : goal.returns-in-54
returns-in-54 c = known c.args.number 54 c.args.a c.args.b c.args.c c.ranges.a c.ranges.b c.ranges.c c.in-54.is

pub returns-in-55 : goal.returns-in-55
returns-in-55 c = known c.args.number 55 c.args.a c.args.b c.args.c c.ranges.a c.ranges.b c.ranges.c c.in-55.is

pub returns-in-56 : goal.returns-in-56
returns-in-56 c = known c.args.number 56 c.args.a c.args.b c.args.c c.ranges.a c.ranges.b c.ranges.c c.in-56.is

pub returns-in-57 : goal.returns-in-57
returns-in-57 c = known c.args.number 57 c.args.a c.args.b c.args.c c.ranges.a c.ranges.b c.ranges.c c.in-57.is

pub returns-in-58 : goal.returns-in-58
returns-in-58 c = known c.args.number 58 c.args.a c.args.b c.args.c c.ranges.a c.ranges.b c.ranges.c c.in-58.is

pub returns-in-59 : goal.returns-in-59
returns-in-59 c = known c.args.number 59 c.args.a c.args.b c.args.c c.ranges.a c.ranges.b c.ranges.c c.in-59.is

pub returns-in-60 : goal.returns-in-60
returns-in-60 c = known c.args.number 60 c.args.a c.args.b c.args.c c.ranges.a c.ranges.b c.ranges.c c.in-60.is

pub returns-in-61 : goal.returns-in-61
returns-in-61 c = known c.args.number 61 c.args.a c.args.b c.args.c c.ranges.a c.ranges.b c.ranges.c c.in-61.is

pub returns-in-62 : goal.returns-in-62
returns-in-62 c = known c.args.number 62 c.args.a c.args.b c.args.c c.ranges.a c.ranges.b c.ranges.c c.in-62.is

pub returns-in-63 : goal.returns-in-63
returns-in-63 c = known c.args.number 63 c.args.a c.args.b c.args.c c.ranges.a c.ranges.b c.ranges.c c.in-63.is

pub returns-in-64 : goal.returns-in-64
returns-in-64 c = known c.args.number 64 c.args.a c.args.b c.args.c c.ranges.a c.ranges.b c.ranges.c c.in-64.is

pub returns-in-65 : goal.returns-in-65
returns-in-65 c = known c.args.number 65 c.args.a c.args.b c.args.c c.ranges.a c.ranges.b c.ranges.c c.in-65.is

pub returns-in-66 : goal.returns-in-66
returns-in-66 c = known c.args.number 66 c.args.a c.args.b c.args.c c.ranges.a c.ranges.b c.ranges.c c.in-66.is

pub returns-in-67 : goal.returns-in-67
returns-in-67 c = known c.args.number 67 c.args.a c.args.b c.args.c c.ranges.a c.ranges.b c.ranges.c c.in-67.is

pub returns-in-68 : goal.returns-in-68
returns-in-68 c = known c.args.number 68 c.args.a c.args.b c.args.c c.ranges.a c.ranges.b c.ranges.c c.in-68.is

pub returns-in-69-to-255 : goal.returns-in-69-to-255
returns-in-69-to-255 c =
    let last : c.args.number ≡ 69 = omega (arith, c.requires, c.in-69-to-255) in
    known c.args.number 69 c.args.a c.args.b c.args.c c.ranges.a c.ranges.b c.ranges.c last
