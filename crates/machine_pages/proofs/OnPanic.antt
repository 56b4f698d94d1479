-- Lists that stop: pages of the crate markdown 1.0.0. Made by tools/machine_pages. Assumes nothing.
use mathlib.Core.List.{[], ◌∷◌}
use lib.Dec.{T}
use Rattle.machine.specs.declared.Ending.TheVariants.{Lf}
use Rattle.machine.proofs.Running.{running}
use Rattle.machine.proofs.Answers.{stops, off, enter, exit, enter_with}

v1 : T (stops (off Lf) ("a" ∷ []) (enter 7 ∷ enter 11 ∷ exit 11 0 1 ∷ exit 7 0 1 ∷ []))
unfolding running
v1 = tt

v2 : T (stops (off Lf) ("a" ∷ []) (enter 7 ∷ enter 8 ∷ exit 8 0 0 ∷ enter 11 ∷ exit 11 0 1 ∷ exit 7 0 1 ∷ []))
unfolding running
v2 = tt

v3 : T (stops (off Lf) ("a" ∷ []) (enter 7 ∷ enter 8 ∷ exit 8 0 0 ∷ enter 9 ∷ exit 9 0 0 ∷ enter 11 ∷ exit 11 0 1 ∷ exit 7 0 1 ∷ []))
unfolding running
v3 = tt

v4 : T (stops (off Lf) ("g" ∷ []) (enter 7 ∷ enter 8 ∷ exit 8 0 0 ∷ enter 9 ∷ exit 9 0 0 ∷ enter 10 ∷ exit 10 0 0 ∷ enter 11 ∷ exit 11 0 1 ∷ exit 7 0 1 ∷ []))
unfolding running
v4 = tt

v5 : T (stops (off Lf) ("amp" ∷ []) (enter 7 ∷ enter 8 ∷ exit 8 0 0 ∷ enter 11 ∷ exit 11 0 3 ∷ enter 11 ∷ exit 11 0 3 ∷ exit 7 0 3 ∷ []))
unfolding running
v5 = tt

v6 : T (stops (off Lf) ("a" ∷ []) (enter 13 ∷ exit 13 0 1 ∷ []))
unfolding running
v6 = tt

v7 : T (stops (off Lf) ("#" ∷ []) (enter 13 ∷ enter 14 ∷ exit 14 0 1 ∷ exit 13 0 1 ∷ exit 13 0 1 ∷ []))
unfolding running
v7 = tt

v8 : T (stops (off Lf) ("a" ∷ []) (enter 16 ∷ enter 18 ∷ exit 18 0 1 ∷ exit 16 0 1 ∷ []))
unfolding running
v8 = tt

v9 : T (stops (off Lf) ("-" ∷ []) (enter 16 ∷ enter 17 ∷ exit 17 0 0 ∷ enter 18 ∷ exit 18 1 1 ∷ exit 16 0 1 ∷ []))
unfolding running
v9 = tt

v10 : T (stops (off Lf) ("-" ∷ []) (enter 16 ∷ enter 17 ∷ exit 17 0 0 ∷ enter 18 ∷ exit 18 0 1 ∷ enter 18 ∷ exit 18 0 1 ∷ exit 16 0 1 ∷ []))
unfolding running
v10 = tt

v11 : T (stops (off Lf) ("`" ∷ []) (enter 29 ∷ exit 29 0 1 ∷ []))
unfolding running
v11 = tt

v12 : T (stops (off Lf) ("`" ∷ []) (enter 28 ∷ exit 28 0 1 ∷ exit 28 0 1 ∷ []))
unfolding running
v12 = tt

v13 : T (stops (off Lf) ("1" ∷ []) (enter 24 ∷ enter 26 ∷ exit 26 0 1 ∷ exit 24 0 1 ∷ []))
unfolding running
v13 = tt

v14 : T (stops (off Lf) ("1" ∷ []) (enter 24 ∷ enter 25 ∷ exit 25 0 1 ∷ exit 24 0 1 ∷ []))
unfolding running
v14 = tt

v15 : T (stops (off Lf) ("x" ∷ []) (enter 21 ∷ enter 23 ∷ enter 24 ∷ enter 26 ∷ exit 26 0 1 ∷ enter 25 ∷ exit 25 0 1 ∷ exit 24 0 1 ∷ exit 23 0 1 ∷ exit 21 0 1 ∷ []))
unfolding running
v15 = tt

v16 : T (stops (off Lf) ([]) (enter 21 ∷ enter 23 ∷ enter 24 ∷ enter 26 ∷ exit 26 0 0 ∷ enter 25 ∷ exit 25 0 0 ∷ exit 24 0 0 ∷ exit 23 0 0 ∷ exit 21 0 0 ∷ []))
unfolding running
v16 = tt

v17 : T (stops (off Lf) ("a" ∷ []) (enter 60 ∷ enter 61 ∷ exit 61 0 1 ∷ exit 60 0 1 ∷ []))
unfolding running
v17 = tt

v18 : T (stops (off Lf) ("a" ∷ []) (enter 60 ∷ exit 60 0 1 ∷ []))
unfolding running
v18 = tt

v19 : T (stops (off Lf) ("a" ∷ []) (enter_with 57 1 ∷ enter 58 ∷ enter 60 ∷ exit 60 0 0 ∷ exit 58 0 0 ∷ exit 57 0 0 ∷ enter 60 ∷ exit 60 0 0 ∷ []))
unfolding running
v19 = tt

v20 : T (stops (off Lf) ("a" ∷ []) (enter 12 ∷ enter 48 ∷ exit 48 0 1 ∷ exit 12 0 1 ∷ []))
unfolding running
v20 = tt

v21 : T (stops (off Lf) ("a" ∷ []) (enter 12 ∷ enter 47 ∷ exit 47 0 1 ∷ exit 12 0 1 ∷ []))
unfolding running
v21 = tt

v22 : T (stops (off Lf) ("a" ∷ []) (enter 12 ∷ enter 52 ∷ exit 52 0 1 ∷ exit 12 0 1 ∷ []))
unfolding running
v22 = tt

v23 : T (stops (off Lf) ("a" ∷ []) (enter 12 ∷ enter 49 ∷ exit 49 0 1 ∷ exit 12 0 1 ∷ []))
unfolding running
v23 = tt

v24 : T (stops (off Lf) ("a" ∷ []) (enter 12 ∷ enter 45 ∷ exit 45 0 1 ∷ exit 12 0 1 ∷ []))
unfolding running
v24 = tt

v25 : T (stops (off Lf) ("a" ∷ []) (enter 12 ∷ enter 45 ∷ enter 47 ∷ exit 47 0 1 ∷ exit 45 0 1 ∷ exit 45 0 1 ∷ exit 12 0 1 ∷ []))
unfolding running
v25 = tt

v26 : T (stops (off Lf) ("a" ∷ []) (enter 12 ∷ enter 45 ∷ enter 47 ∷ enter 48 ∷ exit 48 0 1 ∷ exit 47 0 1 ∷ exit 45 0 1 ∷ exit 12 0 1 ∷ []))
unfolding running
v26 = tt

v27 : T (stops (off Lf) ("a" ∷ []) (enter 12 ∷ enter 62 ∷ enter 47 ∷ exit 47 0 1 ∷ exit 62 0 1 ∷ exit 12 0 1 ∷ []))
unfolding running
v27 = tt

v28 : T (stops (off Lf) ("a" ∷ []) (enter 12 ∷ exit 62 0 1 ∷ exit 12 0 1 ∷ []))
unfolding running
v28 = tt

v29 : T (stops (off Lf) ("a" ∷ []) (enter 12 ∷ enter 62 ∷ enter 47 ∷ enter 48 ∷ exit 48 0 1 ∷ exit 47 0 1 ∷ exit 62 0 1 ∷ exit 12 0 1 ∷ []))
unfolding running
v29 = tt

v30 : T (stops (off Lf) ("a" ∷ []) (enter 53 ∷ exit 53 0 1 ∷ []))
unfolding running
v30 = tt

v31 : T (stops (off Lf) ("a" ∷ []) (enter 63 ∷ enter 64 ∷ exit 64 0 1 ∷ exit 63 0 1 ∷ []))
unfolding running
v31 = tt

v32 : T (stops (off Lf) ("a" ∷ []) (enter 12 ∷ enter 5 ∷ exit 5 0 2 ∷ exit 12 0 1 ∷ []))
unfolding running
v32 = tt

v33 : T (stops (off Lf) ("a" ∷ []) (enter 12 ∷ enter 5 ∷ exit 5 1 0 ∷ exit 12 0 1 ∷ []))
unfolding running
v33 = tt

v34 : T (stops (off Lf) ("Ã©" ∷ []) (enter 12 ∷ enter 5 ∷ exit 5 0 1 ∷ exit 12 0 1 ∷ []))
unfolding running
v34 = tt

v35 : T (stops (off Lf) ("Ã©" ∷ []) (enter 12 ∷ enter 45 ∷ enter 47 ∷ enter 48 ∷ exit 48 0 1 ∷ exit 47 0 2 ∷ enter 49 ∷ exit 49 0 2 ∷ exit 45 0 2 ∷ exit 12 0 2 ∷ []))
unfolding running
v35 = tt

v36 : T (stops (off Lf) ("x" ∷ []) (enter 3 ∷ exit 3 0 1 ∷ []))
unfolding running
v36 = tt

v37 : T (stops (off Lf) ("a" ∷ []) (exit 23 0 1 ∷ []))
unfolding running
v37 = tt

v38 : T (stops (off Lf) ("a" ∷ []) (enter 12 ∷ enter 45 ∷ enter 47 ∷ exit 47 0 0 ∷ enter 52 ∷ exit 52 0 1 ∷ enter 51 ∷ exit 53 0 0 ∷ []))
unfolding running
v38 = tt

v39 : T (stops (off Lf) ("a" ∷ []) (exit 53 0 0 ∷ []))
unfolding running
v39 = tt
