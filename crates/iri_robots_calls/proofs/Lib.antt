mod RobotsLemmas
