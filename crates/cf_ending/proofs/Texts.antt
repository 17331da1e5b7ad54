-- Texts put one after the other.
use Rattle.std.proofs.Common.{◌≡◌, ℕ, List, ◌++◌, append_assoc}

pub eight_joined : (t a b c d e f g h t1 t2 t3 t4 t5 t6 t7 t8 : List ℕ) →
    t1 ≡ t ++ a → t2 ≡ t1 ++ b → t3 ≡ t2 ++ c → t4 ≡ t3 ++ d → t5 ≡ t4 ++ e → t6 ≡ t5 ++ f → t7 ≡ t6 ++ g → t8 ≡ t7 ++ h →
    t8 ≡ t ++ (a ++ (b ++ (c ++ (d ++ (e ++ (f ++ (g ++ h)))))))
eight_joined t a b c d e f g h t1 t2 t3 t4 t5 t6 t7 t8 p1 p2 p3 p4 p5 p6 p7 p8 = rw (p8, p7, p6, p5, p4, p3, p2, p1) (simp append_assoc)

pub ten_joined : (t a b c d e f g h i j t1 t2 t3 t4 t5 t6 t7 t8 t9 t10 : List ℕ) →
    t1 ≡ t ++ a → t2 ≡ t1 ++ b → t3 ≡ t2 ++ c → t4 ≡ t3 ++ d → t5 ≡ t4 ++ e → t6 ≡ t5 ++ f → t7 ≡ t6 ++ g → t8 ≡ t7 ++ h → t9 ≡ t8 ++ i → t10 ≡ t9 ++ j →
    t10 ≡ t ++ (a ++ (b ++ (c ++ (d ++ (e ++ (f ++ (g ++ (h ++ (i ++ j)))))))))
ten_joined t a b c d e f g h i j t1 t2 t3 t4 t5 t6 t7 t8 t9 t10 p1 p2 p3 p4 p5 p6 p7 p8 p9 p10 = rw (p10, p9, p8, p7, p6, p5, p4, p3, p2, p1) (simp append_assoc)
