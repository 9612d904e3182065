mod Replicas
