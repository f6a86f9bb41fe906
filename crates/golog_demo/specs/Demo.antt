-- The files of the demo: a lift of n floors, whose buttons are all pushed.
use Rattle.std.specs.Prelude.{ℕ, zero, suc, List, [], ◌∷◌, ◌++◌, codes, decimal}
use Rattle.std.specs.List.{join_by}

-- the items between the two places where the number of floors stands
abbrev pub items : List ℕ
items =
    codes ")\n"
    ++ codes "  (device panel) (device lift)\n"
    ++ codes "  (fluent floor () level 1)\n"
    ++ codes "  (fluent on (level) bool false)\n"
    ++ codes "  (fluent quitting () bool false)\n"
    ++ codes "  (action up () lift) (action down () lift) (action off (level) lift)\n"
    ++ codes "  (exo push (level) panel) (exo quit () panel)\n"
    ++ codes "  (poss (up) (< (floor) "

-- the other items, and the program: to a floor where the lift stands, then up, then down
abbrev pub end : List ℕ
end =
    codes "))\n"
    ++ codes "  (poss (down) (< 1 (floor)))\n"
    ++ codes "  (poss (off f) (and (on f) (= f (floor))))\n"
    ++ codes "  (causes (up) (floor) (+ (floor) 1))\n"
    ++ codes "  (causes (down) (floor) (- (floor) 1))\n"
    ++ codes "  (causes (off f) (on f) false)\n"
    ++ codes "  (causes (push f) (on f) true)\n"
    ++ codes "  (causes (quit) (quitting) true)\n"
    ++ codes "  (main (interrupts (prio\n"
    ++ codes "    (interrupt (some (f level) (and (on f) (= f (floor)))) (pick (f level) (act off f)))\n"
    ++ codes "    (interrupt (some (f level) (and (on f) (< (floor) f))) (act up))\n"
    ++ codes "    (interrupt (some (f level) (and (on f) (< f (floor)))) (act down))))))\n"

-- the agent file
abbrev pub demo_agent : ℕ → List ℕ
demo_agent n = codes "(agent\n  (sort level 1 " ++ decimal n ++ items ++ decimal n ++ end

-- the numbers from n down to 1
abbrev pub downward : ℕ → List ℕ
downward zero = []
downward (suc n) = suc n ∷ downward n

-- the text of a push of a floor's button, as a JSON string
abbrev pub push_text : ℕ → List ℕ
push_text floor = codes "\"push(" ++ decimal floor ++ codes ")\""

-- a push on each floor, from the top one down
abbrev pub pushes : ℕ → List ℕ
pushes n = join_by push_text (codes ",") (downward n)

-- the devices file: the panel's buttons are pushed, and the lift rests once
abbrev pub demo_devices : ℕ → List ℕ
demo_devices n =
    codes "[{\"name\":\"panel\",\"answers\":[],\"idle\":[" ++ pushes n
    ++ codes "]},{\"name\":\"lift\",\"answers\":[],\"idle\":[\"rest\"]}]"
